use Rattle.sparql_parser.proofs.Told.{read_told}
use Rattle.sparql_parser.proofs.reading.read_tokens.Goals as goal

pub returns : goal.returns
returns c = read_told c.args.text.now c.args.tokens.now c.in_ok-resolved.resolved c.read_resolved.result c.in_ok-resolved.ensures.resolved c.read_resolved.ensures

use Rattle.sparql_parser.proofs.Told.{ok_valid}
use Rattle.sparql_parser.proofs.reading.read_query.Goals as goal

pub returns-clause-valid : goal.returns-clause-valid
returns-clause-valid c = ok_valid c.args.text.now c.read_short.result c.if-text-gt-MOST_BYTES.false c.read_short.ensures

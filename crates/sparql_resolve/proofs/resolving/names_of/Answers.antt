use Rattle.sparql_resolve.proofs.Loops.{names_more, names_end}
use Rattle.sparql_resolve.proofs.resolving.names_of.Goals as goal

pub loop-token-preserved : goal.loop-token-preserved
loop-token-preserved c = names_more c.loop-token.token-index c.loop-token.names _ c.args.bytes.now c.args.tokens.now _ _ c.loop-token-test.true c.in_ok-add_name.ensures c.loop-token.invariant

pub returns : goal.returns
returns c = names_end c.loop-token.token-index c.loop-token.names c.args.bytes.now c.args.tokens.now _ c.loop-token-test.false c.loop-token.invariant

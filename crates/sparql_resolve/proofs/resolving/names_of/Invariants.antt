use Rattle.std.proofs.Common.{◌≡◌, [], drop}
use Rattle.sparql_resolve.specs.Resolving.{names_from}
use Rattle.sparql_resolve.proofs.resolving.names_of.Given as goal

abbrev pub invariant-loop-token : goal.invariant-loop-token
invariant-loop-token l = names_from l.names l.bytes (drop l.token-index l.tokens) ≡ names_from [] l.bytes l.tokens

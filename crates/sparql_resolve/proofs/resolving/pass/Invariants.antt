use Rattle.std.proofs.Common.{◌≡◌, [], drop}
use Rattle.sparql_resolve.specs.Resolving.{view, begin, resolve_from}
use Rattle.sparql_resolve.proofs.resolving.pass.Given as goal

abbrev pub invariant-loop-token : goal.invariant-loop-token
invariant-loop-token l = resolve_from l.names l.bytes (view l.resolver) l.out.items (drop l.token-index l.tokens) ≡ resolve_from l.names l.bytes begin [] l.tokens

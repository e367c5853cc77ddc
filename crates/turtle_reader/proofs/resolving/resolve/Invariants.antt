use Rattle.std.proofs.Common.{◌≡◌, [], drop}
use Rattle.turtle_reader.specs.Resolving.{view, begin, resolve_from}
use Rattle.turtle_reader.proofs.resolving.resolve.Given as goal

abbrev pub invariant-loop-token : goal.invariant-loop-token
invariant-loop-token l = resolve_from l.bytes (view l.resolver) l.out.items (drop l.token-index l.tokens) ≡ resolve_from l.bytes (begin l.base) [] l.tokens

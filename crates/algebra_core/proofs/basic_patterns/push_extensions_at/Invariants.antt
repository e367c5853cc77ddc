use Rattle.std.proofs.Common.{◌≡◌, ◌++◌, take, flat_map}
use Rattle.algebra_core.specs.Substitution.{extensions_at}
use Rattle.algebra_core.proofs.basic_patterns.push_extensions_at.Given as goal

abbrev pub invariant-loop-place : goal.invariant-loop-place
invariant-loop-place l = l.all.items ≡ l.fn.all.items ++ flat_map (extensions_at l.pattern l.graph l.row) (take l.place-index l.places)

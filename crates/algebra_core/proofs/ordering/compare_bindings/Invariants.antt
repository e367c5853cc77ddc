use Rattle.std.proofs.Common.{◌≡◌, drop}
use Rattle.algebra_core.specs.Order.{bindings_cmp}
use Rattle.algebra_core.proofs.ordering.compare_bindings.Given as goal

abbrev pub invariant-loop-i : goal.invariant-loop-i
invariant-loop-i l = bindings_cmp l.places l.a l.b ≡ bindings_cmp (drop l.i l.places) l.a l.b

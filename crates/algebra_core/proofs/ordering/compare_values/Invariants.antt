use Rattle.std.proofs.Common.{◌≡◌, drop}
use Rattle.algebra_core.specs.Ranks.{values_cmp}
use Rattle.algebra_core.proofs.ordering.compare_values.Given as goal

abbrev pub invariant-loop-i : goal.invariant-loop-i
invariant-loop-i l = values_cmp l.keys l.a l.b ≡ values_cmp (drop l.i l.keys) (drop l.i l.a) (drop l.i l.b)

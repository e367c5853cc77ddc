use Rattle.std.proofs.Common.{◌≡◌, map}
use Rattle.algebra_core.specs.Ranks.{row_in}
use Rattle.algebra_core.proofs.ordering.rows_of.Given as goal

abbrev pub invariant-loop-one : goal.invariant-loop-one
invariant-loop-one l = l.all.items ≡ map row_in l.yielded

use Rattle.std.proofs.Common.{◌≡◌}
use Rattle.algebra_core.proofs.evaluation.rows_of.Given as goal

abbrev pub invariant-loop-cells : goal.invariant-loop-cells
invariant-loop-cells l = l.all.items ≡ l.yielded

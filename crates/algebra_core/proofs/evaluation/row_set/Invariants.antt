use Rattle.std.proofs.Common.{◌≡◌}
use Rattle.algebra_core.specs.Graphs.{once}
use Rattle.algebra_core.specs.Query.{same_row}
use Rattle.algebra_core.proofs.evaluation.row_set.Given as goal

abbrev pub invariant-loop-row : goal.invariant-loop-row
invariant-loop-row l = l.set.keys ≡ once same_row l.yielded

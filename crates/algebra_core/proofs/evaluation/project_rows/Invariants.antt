use Rattle.std.proofs.Common.{◌≡◌, map}
use Rattle.rows_core.specs.Rows.{projected}
use Rattle.algebra_core.proofs.evaluation.project_rows.Given as goal

abbrev pub invariant-loop-row : goal.invariant-loop-row
invariant-loop-row l = l.all.items ≡ map (projected l.select) l.yielded

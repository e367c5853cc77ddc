use Rattle.std.proofs.Common.{◌≡◌, take}
use Rattle.rows_core.specs.Rows.{projected}
use Rattle.rows_core.proofs.row.project_cells.Given as goal

abbrev pub invariant-loop-var : goal.invariant-loop-var
invariant-loop-var l = l.out.items ≡ projected (take l.var-index l.select) l.cells

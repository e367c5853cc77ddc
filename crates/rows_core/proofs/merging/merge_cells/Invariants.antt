use Rattle.std.proofs.Common.{◌≡◌, drop, ◌++◌}
use Rattle.rows_core.specs.Rows.{merged}
use Rattle.rows_core.proofs.merging.merge_cells.Given as goal

abbrev pub invariant-loop-i : goal.invariant-loop-i
invariant-loop-i l = merged l.a l.b ≡ l.cells.items ++ merged (drop l.i l.a) (drop l.i l.b)

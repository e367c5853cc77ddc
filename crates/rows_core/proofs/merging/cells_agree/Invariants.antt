use Rattle.std.proofs.Common.{◌≡◌, drop}
use Rattle.rows_core.specs.Rows.{fits}
use Rattle.rows_core.proofs.merging.cells_agree.Given as goal

abbrev pub invariant-loop-i : goal.invariant-loop-i
invariant-loop-i l = fits l.a l.b ≡ fits (drop l.i l.a) (drop l.i l.b)

use Rattle.std.proofs.Common.{◌≡◌}
use Rattle.rows_core.specs.Rows.{unbound}
use Rattle.rows_core.proofs.row.Row.unbound.Given as goal

abbrev pub invariant-loop-variable : goal.invariant-loop-variable
invariant-loop-variable l = l.cells.items ≡ unbound l._variable

use Rattle.std.proofs.Common.{◌≡◌}
use Rattle.symmetric_join.proofs.keyed.KeyedRows.list_rows.Given as goal

abbrev pub invariant-loop-place : goal.invariant-loop-place
invariant-loop-place l = (l.self.rows ≡ l.fn.self.rows) × (l.self.vars ≡ l.fn.self.vars) × (l.self.listed ≡ l._place)

use Rattle.std.proofs.Common.{◌≡◌, take}
use Rattle.algebra_core.specs.Graphs.{extended}
use Rattle.algebra_core.proofs.basic_patterns.extend_rows.Given as goal

abbrev pub invariant-loop-row : goal.invariant-loop-row
invariant-loop-row l = l.all.items ≡ extended l.pattern l.graph (take l.row-index l.rows)

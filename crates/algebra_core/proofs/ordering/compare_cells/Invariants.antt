use Rattle.std.proofs.Common.{◌≡◌, drop}
use Rattle.std.specs.Cmp.Lexicographic.{slice_cmp}
use Rattle.expr_eval.specs.Order.{term_order}
use Rattle.algebra_core.proofs.ordering.compare_cells.Given as goal

abbrev pub invariant-loop-i : goal.invariant-loop-i
invariant-loop-i l = slice_cmp term_order l.a l.b ≡ slice_cmp term_order (drop l.i l.a) (drop l.i l.b)

use Rattle.std.proofs.Common.{◌≡◌, ◌++◌, take, drop, zero}
use Rattle.algebra_core.specs.Meaning.{restricted}
use Rattle.algebra_core.proofs.evaluation.hide.Given as goal

abbrev pub invariant-loop-i : goal.invariant-loop-i
invariant-loop-i l = restricted l.names l.fn.cells ≡ take l.i l.cells ++ restricted zero (drop l.i l.cells)

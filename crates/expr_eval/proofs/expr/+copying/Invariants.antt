use Rattle.std.proofs.Common.{◌≡◌, take}
use Rattle.expr_eval.proofs.expr.+copying.Given as goal

abbrev pub invariant-copy_all-loop-part : goal.invariant-copy_all-loop-part
invariant-copy_all-loop-part l = l.all ≡ take l.part-index l.parts

abbrev pub invariant-copy_operands-loop-operand : goal.invariant-copy_operands-loop-operand
invariant-copy_operands-loop-operand l = l.all ≡ take l.operand-index l.operands

use Rattle.std.proofs.Common.{sym}
use Rattle.expr_eval.proofs.BooleanLemmas.{number_in_boolean}
use Rattle.expr_eval.proofs.operand.Held.number.Goals as goal

pub returns-in-Truth : goal.returns-in-Truth
returns-in-Truth c = rw c.in-Truth.is (sym (number_in_boolean c.in-Truth.field-0))

use Rattle.std.proofs.Common.{sym}
use Rattle.expr_eval.proofs.BooleanLemmas.{truth_of_boolean}
use Rattle.expr_eval.proofs.operand.Held.truth.Goals as goal

pub returns-in-Truth : goal.returns-in-Truth
returns-in-Truth c = rw c.in-Truth.is (sym (truth_of_boolean c.in-Truth.truth))

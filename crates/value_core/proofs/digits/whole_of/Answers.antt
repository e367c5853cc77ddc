use Rattle.value_core.proofs.AfterLemmas.{number_after-zero}
use Rattle.value_core.proofs.digits.whole_of.Goals as goal

pub returns : goal.returns
returns c = rw number_after-zero at c.number_after.ensures

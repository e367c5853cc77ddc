use Rattle.site_core.proofs.OneAnswer.{one_place}
use Rattle.site_core.proofs.laws.a_fault_has_one_place.Goals as goal

pub returns : goal.returns
returns c = one_place

use Rattle.site_core.proofs.OneAnswer.{never_both}
use Rattle.site_core.proofs.laws.a_site_text_has_no_fault.Goals as goal

pub returns : goal.returns
returns c = never_both

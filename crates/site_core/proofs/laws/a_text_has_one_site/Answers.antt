use Rattle.site_core.proofs.OneAnswer.{one_site}
use Rattle.site_core.proofs.laws.a_text_has_one_site.Goals as goal

pub returns : goal.returns
returns c = one_site

use Rattle.site_core.proofs.GeneratedSites.{one_generated}
use Rattle.site_core.proofs.laws.a_generated_site_is_one.Goals as goal

pub returns : goal.returns
returns c = one_generated

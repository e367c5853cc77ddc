use Rattle.site_core.proofs.Appended.{then_appended}
use Rattle.site_core.proofs.documents.push_next_triple.Goals as goal

pub returns : goal.returns
returns c = then_appended c.push_between-2.result _ _ _ _ _ c.in_ok-push_between.ensures c.push_between-2.ensures

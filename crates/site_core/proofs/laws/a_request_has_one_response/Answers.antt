use Rattle.site_core.proofs.ServedLemmas.{served_once}
use Rattle.site_core.proofs.laws.a_request_has_one_response.Goals as goal

pub returns : goal.returns
returns c = served_once

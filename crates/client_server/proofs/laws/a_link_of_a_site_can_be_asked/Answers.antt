use Rattle.client_server.proofs.Askable.{askable}
use Rattle.client_server.proofs.laws.a_link_of_a_site_can_be_asked.Goals as goal

pub returns : goal.returns
returns c = askable

use Rattle.client_server.proofs.Askable.{http_askable}
use Rattle.client_server.proofs.laws.an_http_link_can_be_asked.Goals as goal

pub returns : goal.returns
returns c = http_askable

use Rattle.client_server.proofs.Requests.{reads_request}
use Rattle.client_server.proofs.laws.a_request_is_read_as_its_head.Goals as goal

pub returns : goal.returns
returns c = reads_request

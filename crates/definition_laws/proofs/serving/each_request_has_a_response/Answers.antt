use Rattle.definition_laws.proofs.RequestsDecided.{has_response}
use Rattle.definition_laws.proofs.serving.each_request_has_a_response.Goals as goal

pub returns : goal.returns
returns c = has_response

use Rattle.http_message.proofs.HeadsDecided.{has_reading}
use Rattle.http_message.proofs.laws.bytes_have_a_reading.Goals as goal

pub returns : goal.returns
returns c = has_reading

use Rattle.http_message.proofs.Unique.{reads_once}
use Rattle.http_message.proofs.laws.bytes_have_one_reading.Goals as goal

pub returns : goal.returns
returns c = reads_once

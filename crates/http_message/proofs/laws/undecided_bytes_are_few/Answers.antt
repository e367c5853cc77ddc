use Rattle.http_message.proofs.Bound.{reads_bound}
use Rattle.http_message.proofs.laws.undecided_bytes_are_few.Goals as goal

pub returns : goal.returns
returns c = reads_bound

use Rattle.http_message.proofs.PrintedHeads.{reads_printed}
use Rattle.http_message.proofs.laws.a_printed_head_is_read_as_it_says.Goals as goal

pub returns : goal.returns
returns c = reads_printed

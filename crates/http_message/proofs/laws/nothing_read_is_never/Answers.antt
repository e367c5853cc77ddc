use Rattle.http_message.proofs.HeardLemmas.{decided_never, ended_never}
use Rattle.http_message.proofs.laws.nothing_read_is_never.Goals as goal

pub returns : goal.returns
returns c = record { decided = decided_never; ended = ended_never }

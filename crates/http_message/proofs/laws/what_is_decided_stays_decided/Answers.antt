use Rattle.http_message.proofs.StaysDecided.{stays_decided}
use Rattle.http_message.proofs.laws.what_is_decided_stays_decided.Goals as goal

pub returns : goal.returns
returns c = stays_decided

use Rattle.http_message.proofs.HeardLemmas.{stated_length}
use Rattle.http_message.proofs.laws.a_stated_length_is_that_many_bytes.Goals as goal

pub returns : goal.returns
returns c = stated_length

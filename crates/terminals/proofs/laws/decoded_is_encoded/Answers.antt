use Rattle.terminals.proofs.Spelling.{spelled}
use Rattle.terminals.proofs.laws.decoded_is_encoded.Goals as goal

pub returns : goal.returns
returns c = spelled

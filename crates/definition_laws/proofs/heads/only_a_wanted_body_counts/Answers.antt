use Rattle.definition_laws.proofs.Unwanted.{unwanted_same}
use Rattle.definition_laws.proofs.heads.only_a_wanted_body_counts.Goals as goal

pub returns : goal.returns
returns c = unwanted_same

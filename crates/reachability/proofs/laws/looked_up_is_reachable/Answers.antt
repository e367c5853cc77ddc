use Rattle.reachability.proofs.Reachable.{looks_up_reachable}
use Rattle.reachability.proofs.laws.looked_up_is_reachable.Goals as goal

pub returns : goal.returns
returns c = looks_up_reachable

use Rattle.algebra_core.proofs.LeftJoins.{left_joined_is}
use Rattle.algebra_core.proofs.laws.left_join_is_join_and_rest.Goals as goal

pub returns : goal.returns
returns c = left_joined_is

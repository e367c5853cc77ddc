use Rattle.algebra_core.proofs.SolutionBags.{answers_again}
use Rattle.algebra_core.proofs.laws.solutions_ignore_order.Goals as goal

pub returns : goal.returns
returns c = answers_again c.args.query.now c.ignore_order.ensures

use Rattle.algebra_core.proofs.SolutionBags.{solutions_sub}
use Rattle.algebra_core.proofs.laws.solutions_grow.Goals as goal

pub returns : goal.returns
returns c = solutions_sub c.args.query.now c.grow.ensures

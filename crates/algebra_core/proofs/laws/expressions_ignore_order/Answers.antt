use Rattle.algebra_core.proofs.SolutionBags.{one_graph}
use Rattle.algebra_core.proofs.laws.expressions_ignore_order.Goals as goal

pub returns-clause-graphs : goal.returns-clause-graphs
returns-clause-graphs c = one_graph c.args.algebra.now c.ignore_order.ensures

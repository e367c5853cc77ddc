use Rattle.algebra_core.proofs.Shapes.{names_decide}
use Rattle.algebra_core.proofs.laws.names_break_ties.Goals as goal

pub returns : goal.returns
returns c = names_decide c.args.query.now c.keep_shape.ensures

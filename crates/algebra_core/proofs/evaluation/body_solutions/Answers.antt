use Rattle.std.proofs.Common.{refl}
use Rattle.algebra_core.proofs.SolutionBags.{body_rows_over}
use Rattle.algebra_core.proofs.evaluation.body_solutions.Goals as goal

pub returns : goal.returns
returns c = body_rows_over c.args.query.now c.args.graph.now _ _ _ c.has_each_once.ensures refl c.len.ensures c.in_ok-rows.ensures

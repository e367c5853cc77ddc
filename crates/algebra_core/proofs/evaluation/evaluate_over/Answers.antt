use Rattle.algebra_core.proofs.SolutionBags.{solutions_answer, solutions_made}
use Rattle.algebra_core.proofs.evaluation.evaluate_over.Goals as goal

pub returns-clause-list : goal.returns-clause-list
returns-clause-list c =
    solutions_made c.args.query.now c.args.graph.now _ _ _ _ _ _ c.in_ok-rows.ensures c.in_ok-rows-2.ensures c.as_slice.ensures c.in_ok-rows-3.ensures c.in_ok-rows-4.ensures c.from_vec.ensures

pub returns-clause-answers : goal.returns-clause-answers
returns-clause-answers c =
    solutions_answer c.args.query.now c.args.graph.now _
    (solutions_made c.args.query.now c.args.graph.now _ _ _ _ _ _ c.in_ok-rows.ensures c.in_ok-rows-2.ensures c.as_slice.ensures c.in_ok-rows-3.ensures c.in_ok-rows-4.ensures c.from_vec.ensures)

use Rattle.algebra_core.proofs.SolutionBags.{solutions_once, solutions_answer}
use Rattle.algebra_core.proofs.evaluation.evaluate_query.Goals as goal

pub returns-clause-list : goal.returns-clause-list
returns-clause-list c = solutions_once c.args.query.now c.args.triples.now _ _ c.in_ok-graph.ensures c.in_ok-rows.ensures.list

pub returns-clause-answers : goal.returns-clause-answers
returns-clause-answers c = solutions_answer c.args.query.now c.args.triples.now _ (solutions_once c.args.query.now c.args.triples.now _ _ c.in_ok-graph.ensures c.in_ok-rows.ensures.list)

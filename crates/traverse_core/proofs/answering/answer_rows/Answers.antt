use Rattle.traverse_core.proofs.Wide.{solutions_wide}
use Rattle.traverse_core.proofs.answering.answer_rows.Goals as goal

pub returns-clause-wide : goal.returns-clause-wide
returns-clause-wide c = rw c.in_ok-rows.ensures.list (solutions_wide c.args.query.now c.args.graph.now)

use Rattle.json_results.proofs.InOrder.{joined}
use Rattle.json_results.proofs.term.write_tagged.Goals as goal

pub returns-clause-ok : goal.returns-clause-ok
returns-clause-ok c =
    joined _ _ _ _ _ _ _ _ _ c.in_ok-begin_object.ensures.ok c.in_ok-write_type_and_value.ensures.ok c.in_ok-write_text.ensures.ok c.in_ok-end_object.ensures.ok

use Rattle.rdf_terms.proofs.Escape.{one_more}
use Rattle.rdf_terms.proofs.write.push_escaped_text.Goals as goal

pub loop-c-preserved : goal.loop-c-preserved
loop-c-preserved c = one_more _ _ _ c.loop-c.yielded _ c.loop-c.invariant c.in_ok-push_escaped.ensures

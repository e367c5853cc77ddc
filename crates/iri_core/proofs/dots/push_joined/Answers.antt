use Rattle.iri_core.proofs.SegmentLemmas.{joined_more}
use Rattle.iri_core.proofs.dots.push_joined.Goals as goal

pub loop-i-preserved : goal.loop-i-preserved
loop-i-preserved c = joined_more c.args.segments.now c.loop-i.i _ _ _ _ _ c.loop-i-test.true c.loop-i.invariant c.in_ok-push_slash.ensures c.in_ok-push_str.ensures.bytes

use Rattle.site_core.proofs.Numbers.{capped_more}
use Rattle.doc_server.proofs.words.value_of.Goals as goal

pub loop-digit-preserved : goal.loop-digit-preserved
loop-digit-preserved c = capped_more c.args.digits.now c.loop-digit.digit-index c.loop-digit.value c.saturating_add-value.result c.requires c.loop-digit-test.true c.loop-digit.invariant (cc)

use Rattle.std.proofs.Common.{subst}
use Rattle.site_core.specs.Places.{SiteBad}
use Rattle.answer_core.proofs.answering.site_of.Goals as goal

pub returns-clause-bad : goal.returns-clause-bad
returns-clause-bad c = λ at e. subst (λ b. SiteBad b at) c.as_slice.ensures (c.read_site.ensures.bad at e)

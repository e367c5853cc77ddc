use Rattle.std.proofs.Common.{sym, ◌∙◌}
use Rattle.site_core.proofs.StepLemmas.{site_link_text}
use Rattle.site_core.proofs.steps.with_link.Goals as goal

pub returns-in-Err : goal.returns-in-Err
returns-in-Err c = absurd (c.in-Err.ensures.cases.0 (site_link_text c.args.text.now (sym c.in_ok-is_site_link.ensures ∙ c.if-not-branch.false)))

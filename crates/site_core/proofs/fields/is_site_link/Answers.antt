use Rattle.std.proofs.Common.{sym, ◌∙◌}
use Rattle.site_core.proofs.Ends.{visible_text}
use Rattle.site_core.proofs.fields.is_site_link.Goals as goal

pub returns-in-Err : goal.returns-in-Err
returns-in-Err c = absurd (c.in-Err.ensures.cases.0 (visible_text c.args.bytes.now (sym c.all_visible.ensures ∙ c.if-not-all_visible.false)))

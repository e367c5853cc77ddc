use Rattle.std.proofs.Common.{sym, ◌∙◌, ap}
use Rattle.site_core.specs.declared.expected.Expected.{Expected}
use Rattle.site_core.specs.Capped.{capped}
use Rattle.site_core.specs.Lines.{field_of, step, with_field}
use Rattle.site_core.proofs.StepLemmas.{with_field-capped}
use Rattle.site_core.proofs.steps.step.Goals as goal

pub returns-in-First : goal.returns-in-First
returns-in-First c = c.first.ensures c.args.entries.now ∙ ap (λ (s : Expected). capped (step c.args.entries.now s c.args.line.now)) (sym c.in-First.is)

pub returns-in-Named : goal.returns-in-Named
returns-in-Named c = c.named.ensures c.args.entries.now ∙ ap (λ (s : Expected). capped (step c.args.entries.now s c.args.line.now)) (sym c.in-Named.is)

pub returns-in_ok-field_of-in-Headed : goal.returns-in_ok-field_of-in-Headed
returns-in_ok-field_of-in-Headed c =
    c.with_field.ensures
    ∙ ap (with_field c.in-Headed.link c.in-Headed.reply) c.in_ok-field_of-in-Headed.ensures
    ∙ with_field-capped c.in-Headed.link c.in-Headed.reply (field_of c.args.line.now)
    ∙ ap (λ (s : Expected). capped (step c.args.entries.now s c.args.line.now)) (sym c.in-Headed.is)

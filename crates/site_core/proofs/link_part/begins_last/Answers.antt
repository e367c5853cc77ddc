use Rattle.std.proofs.Common.{sym, ◌∙◌, ap, ℕ, List, Option, None}
use Rattle.site_core.specs.Growth.{begins, begins_last}
use Rattle.site_core.proofs.StepLemmas.{last_link-last}
use Rattle.site_core.proofs.link_part.begins_last.Goals as goal

pub returns-in-Some : goal.returns-in-Some
returns-in-Some c =
    c.begins.ensures
    ∙ ap (λ (b : List ℕ). begins b c.args.text.now) (c.as_bytes.ensures.value ∙ c.as_str.ensures)
    ∙ ap (λ (o : Option (List ℕ)). begins_last o c.args.text.now) (sym (last_link-last None c.args.entries.now c.in-Some.last.now (sym c.in-Some.ensures.value)))

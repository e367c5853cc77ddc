use Rattle.std.proofs.Common.{sym, ◌∙◌, ap, ℕ, List, Option, None}
use Rattle.std.specs.Cmp.Lexicographic.{slice_cmp}
use Rattle.std.specs.Ordering.{nat_cmp, is_lt}
use Rattle.site_core.specs.Text.{comes_after}
use Rattle.site_core.proofs.StepLemmas.{last_link-last}
use Rattle.site_core.proofs.steps.follows.Goals as goal

pub returns-in-Some : goal.returns-in-Some
returns-in-Some c =
    c.is_below.ensures
    ∙ ap (λ (b : List ℕ). is_lt (slice_cmp nat_cmp b c.args.text.now)) (c.as_bytes.ensures.value ∙ c.as_str.ensures)
    ∙ ap (λ (o : Option (List ℕ)). comes_after o c.args.text.now) (sym (last_link-last None c.args.entries.now c.in-Some.last.now (sym c.in-Some.ensures.value)))

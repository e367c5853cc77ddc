use Rattle.std.proofs.Common.{◌≡◌, Some, refl, sym, ap, ◌∙◌}
use Rattle.std.specs.Prelude.{codes, unwrap_or, is_some}
use Rattle.std.proofs.lemmas.Bool.{false≢true}
use Rattle.url.proofs.OnLiterals.{url_on_literals}
use Rattle.link_uri.specs.Links.{link_of}
use Rattle.answer_core.specs.Task.{generated_link}
use Rattle.answer_core.proofs.generated.seed.Goals as goal

computed : link_of (codes "http://self.test/d0#it") ≡ Some generated_link
unfolding url_on_literals
computed = refl

pub unreachable-requires : goal.unreachable-requires
unreachable-requires c = false≢true (ap is_some (sym c.in-None.is ∙ (c.in_ok-link.ensures.value ∙ computed)))

pub returns-clause-value : goal.returns-clause-value
returns-clause-value c = ap (λ o. unwrap_or o c.in-Some.link) (sym c.in-Some.is ∙ (c.in_ok-link.ensures.value ∙ computed))

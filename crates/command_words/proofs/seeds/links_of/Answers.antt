use Rattle.std.proofs.Common.{◌≡◌, ◌++◌, ◌∷◌, [], Some, sym, ap, subst, ◌∙◌}
use Rattle.std.specs.Prelude.{IfSome}
use Rattle.link_uri.specs.Links.{IsLink}
use Rattle.command_words.proofs.LinksOfSeeds.{none_at, more_at, own_push}
use Rattle.command_words.proofs.seeds.links_of.Goals as goal

pub returns-in-None-clause-value : goal.returns-in-None-clause-value
returns-in-None-clause-value c =
    sym (none_at (λ t. t.now) c.args.texts.now c.loop-text.text-index _ c.loop-text-test.true (sym c.in_ok-link.ensures.value ∙ c.in-None.is))

pub loop-text-preserved : goal.loop-text-preserved
loop-text-preserved c =
    let pushed : c.push.new.self ≡ c.loop-text.links ++ c.in-Some.link ∷ [] = c.in_ok-push-in-Some.ensures.ok in
    let valid_links : IsLink c.in-Some.link = subst (λ o. IfSome o IsLink) c.in-Some.is c.in_ok-link.ensures.valid_links in (
      more_at (λ t. t.now) c.args.texts.now c.loop-text.text-index _ c.loop-text.links c.in-Some.link c.loop-text-test.true c.loop-text.invariant.0 (sym c.in_ok-link.ensures.value ∙ c.in-Some.is) ∙ ap (λ us. Some us) (sym pushed),
      own_push c.loop-text.links c.push.new.self c.in-Some.link pushed c.loop-text.invariant.1 valid_links,
    )

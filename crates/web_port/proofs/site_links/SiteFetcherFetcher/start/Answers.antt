use Rattle.std.proofs.Common.{subst}
use Rattle.rdf_terms.specs.Lists.{IsIn}
use Rattle.web_port.specs.Flights.{numbers}
use Rattle.web_port.specs.SiteWeb.{SiteFetching}
use Rattle.web_port.proofs.LanesLemmas.{kept_started}
use Rattle.web_port.proofs.site_links.SiteFetcherFetcher.start.Goals as goal

pub invariant_of-self-2 : goal.invariant_of-self-2
invariant_of-self-2 c =
    let w = c.self.inside in
    let i = c.self.invariant in
    let apart : IsIn (numbers w.flying.flights) c.args.number → ⊥ = λ h. c.requires.fresh (subst (λ (f : SiteFetching). IsIn (numbers f.flying.flights) c.args.number) c.self.view_is h) in
    (i.0, i.1, kept_started c.start.result w.tries w.flying _ c.args.number _ i.2 i.1 apart c.start.ensures.ok c.start.ensures.err)

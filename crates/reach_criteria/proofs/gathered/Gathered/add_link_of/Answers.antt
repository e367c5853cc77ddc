use Rattle.std.proofs.Common.{subst}
use Rattle.std.specs.Prelude.{IfSome}
use Rattle.link_uri.specs.Links.{IsLink}
use Rattle.reach_criteria.proofs.Meeting.{gathered_link}
use Rattle.reach_criteria.proofs.gathered.Gathered.add_link_of.Goals as goal

pub invariant_of-self : goal.invariant_of-self
invariant_of-self c =
    let own = subst (λ o. IfSome o IsLink) c.in-Some.is c.in_ok-link.ensures.valid_links in
    rw c.in_ok-insert.ensures.keys (gathered_link c.self.inside.links.keys c.self.inside.met.keys c.in-Some.link c.self.invariant own)

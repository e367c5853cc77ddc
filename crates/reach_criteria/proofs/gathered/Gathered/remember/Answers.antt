use Rattle.std.proofs.Common.{subst, sym}
use Rattle.reach_criteria.specs.Met.{IsThere}
use Rattle.reach_criteria.proofs.Meeting.{gathered_met}
use Rattle.reach_criteria.proofs.gathered.Gathered.remember.Goals as goal

pub invariant_of-self-2 : goal.invariant_of-self-2
invariant_of-self-2 c =
    let there = subst (λ links. IsThere links c.args.iri.now) (sym c.self.view_is) c.requires in
    rw c.in_ok-insert.ensures.keys (rw c.in_ok-copy.ensures (gathered_met c.self.inside.links.keys c.self.inside.met.keys c.args.iri.now c.self.invariant there))

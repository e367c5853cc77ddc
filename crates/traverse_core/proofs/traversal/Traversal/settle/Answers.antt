use Rattle.std.proofs.Common.{◌≡◌, ◌∙◌, ap, subst, length, false}
use Rattle.std.specs.Prelude.{Some}
use Rattle.link_uri.specs.Links.{AreLinks}
use Rattle.link_queue.specs.declared.state.LinkState.TheVariants.{InFlight}
use Rattle.link_queue.specs.Table.{state_at, link_at}
use Rattle.traverse_core.specs.Run.{rule_of, targets}
use Rattle.traverse_core.proofs.Kept.{flies, running_open}
use Rattle.traverse_core.proofs.Settling.{settled_tied, targets_same}
use Rattle.traverse_core.proofs.traversal.Traversal.settle.Goals as goal

pub overflow_sub-self : goal.overflow_sub-self
overflow_sub-self g c =
    let at : state_at c.self.inside.table c.args.number ≡ Some InFlight = rw (ap (λ s. s.table) c.self.view_is) c.requires.out in
    flies _ _ _ _ _ _ _ _ c.self.invariant at

pub invariant_of-self-2 : goal.invariant_of-self-2
invariant_of-self-2 g c =
    let at : state_at c.self.inside.table c.args.number ≡ Some InFlight = rw (ap (λ s. s.table) c.self.view_is) c.requires.out in
    let l : link_at c.args.self.now.table c.args.number ≡ Some c.get-link.result.now = rw (← ap (λ s. s.table) c.self.view_is) c.get-link.ensures.link in
    let dry : c.self.inside.drawn ≡ length c.self.inside.log = rw (ap (λ s. s.drawn) c.self.view_is, ap (λ s. s.log) c.self.view_is) c.requires.dry in
    let open' : c.self.inside.output.closed ≡ false = ap (λ s. s.out.closed) c.self.view_is ∙ running_open c.args.self.now c.requires.runs in
    let t : c.in_ok-links.links.items ≡ targets (rule_of g.J.Job.run) c.args.found =
    c.in_ok-links.ensures.links ∙ targets_same g.J.Job.run _ _ _ _ c.as_slice.ensures c.self.invariant.same_criterion c.self.invariant.same_patterns in
    let e : c.as_slice-2.result.now ≡ targets (rule_of g.J.Job.run) c.args.found = c.as_slice-2.ensures.value ∙ t in
    let valid_links : AreLinks (targets (rule_of g.J.Job.run) c.args.found) = subst AreLinks t c.in_ok-links.ensures.valid_links in
    rw (c.in_ok-record_found.ensures.table, c.in_ok-record_found.ensures.entries, c.in_ok-record_found.ensures.log, e, c.in_ok-text.ensures)
    (settled_tied _ _ _ _ _ _ _ _ _ _ c.self.invariant open' at c.get-link.ensures.link dry valid_links (c.requires.may _ l))

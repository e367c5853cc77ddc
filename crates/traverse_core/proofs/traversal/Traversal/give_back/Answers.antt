use Rattle.std.proofs.Common.{◌≡◌, ap}
use Rattle.std.specs.Prelude.{Some}
use Rattle.link_queue.specs.declared.state.LinkState.TheVariants.{InFlight}
use Rattle.link_queue.specs.Table.{state_at}
use Rattle.traverse_core.proofs.Kept.{flies, given_back_tied}
use Rattle.traverse_core.proofs.traversal.Traversal.give_back.Goals as goal

pub overflow_sub-self : goal.overflow_sub-self
overflow_sub-self g c =
    let at : state_at c.self.inside.table c.args.number ≡ Some InFlight = rw (ap (λ s. s.table) c.self.view_is) c.requires in
    flies _ _ _ _ _ _ _ _ c.self.invariant at

pub invariant_of-self : goal.invariant_of-self
invariant_of-self g c =
    let at : state_at c.self.inside.table c.args.number ≡ Some InFlight = rw (ap (λ s. s.table) c.self.view_is) c.requires in
    rw c.give_back.ensures (given_back_tied _ _ _ _ _ _ _ _ c.self.invariant at)

use Rattle.std.proofs.Common.{◌≡◌, sym, subst, rules}
use Rattle.std.proofs.lemmas.Fn.{filter_same}
use Rattle.outer_ports.specs.MemoryWire.{NumbersRise}
use Rattle.outer_ports.proofs.OpenConnsLemmas.{others_of, closed, others_stay, rise_others}
use Rattle.outer_ports.proofs.open_conns.OpenConns.close.Goals as goal

pub invariant_of-self : goal.invariant_of-self
invariant_of-self c =
    let kept : c.retain.new.self.items ≡ others_of c.args.number c.self.inside.conns.items = filter_same _ _ _ (λ x b f' k. search rules) _ _ c.retain.ensures.filtered in
    subst (λ os. NumbersRise 0 c.self.inside.next os) (sym kept) (rise_others _ _ _ _ c.self.invariant)

pub returns-clause-closed : goal.returns-clause-closed
returns-clause-closed c =
    let kept : c.retain.new.self.items ≡ others_of c.args.number c.self.inside.conns.items = filter_same _ _ _ (λ x b f' k. search rules) _ _ c.retain.ensures.filtered in
    rw kept (closed c.self.inside.conns.items c.args.number)

pub returns-clause-others : goal.returns-clause-others
returns-clause-others c =
    let kept : c.retain.new.self.items ≡ others_of c.args.number c.self.inside.conns.items = filter_same _ _ _ (λ x b f' k. search rules) _ _ c.retain.ensures.filtered in
    λ k ne. rw (kept, ← c.self.view_is) (others_stay c.self.inside.conns.items c.args.number k ne)

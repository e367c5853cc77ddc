use Rattle.std.proofs.Common.{◌≡◌, ◌+◌, ◌++◌, ◌∷◌, [], refl, sym, subst, rules, arith}
use Rattle.outer_ports.specs.MemoryWire.{NumbersRise, fresh_open}
use Rattle.outer_ports.proofs.OpenConnsLemmas.{none_above, becomes_push, rise_push}
use Rattle.outer_ports.proofs.open_conns.OpenConns.open.Goals as goal

pub invariant_of-self-2 : goal.invariant_of-self-2
invariant_of-self-2 c =
    let pushed : c.push.new.self.items ≡ c.self.inside.conns.items ++ c.in_ok-conn.conn ∷ [] = search rules in
    subst (λ os. NumbersRise 0 (c.self.inside.next + 1) os) (sym pushed) (rise_push _ _ _ _ c.self.invariant (search rules))

pub returns-clause-new : goal.returns-clause-new
returns-clause-new c = rw (← c.self.view_is) (none_above _ _ _ _ c.self.invariant (omega arith))

pub returns-clause-becomes : goal.returns-clause-becomes
returns-clause-becomes c =
    let o = fresh_open c.self.inside.next c.args.host.now c.args.port c.args.since in
    let pushed : c.push.new.self.items ≡ c.self.inside.conns.items ++ o ∷ [] = search rules in
    rw (pushed, ← c.self.view_is) (becomes_push c.self.inside.conns.items c.self.inside.next o (none_above _ _ _ _ c.self.invariant (omega arith)) refl)

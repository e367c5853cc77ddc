use Rattle.std.proofs.Common.{◌≡◌, sym, subst, rules}
use Rattle.outer_ports.specs.MemoryWire.{NumbersRise}
use Rattle.outer_ports.proofs.OpenConnsLemmas.{rise_set}
use Rattle.outer_ports.proofs.open_conns.OpenConns.name_longest.Goals as goal

pub longest_waiting-number-requires-clause-rise : goal.longest_waiting-number-requires-clause-rise
longest_waiting-number-requires-clause-rise c =
    let same : c.as_slice.result.now ≡ c.self.inside.conns.items = search rules in
    (c.self.inside.next, subst (λ os. NumbersRise 0 c.self.inside.next os) (sym same) c.self.invariant)

pub invariant_of-self : goal.invariant_of-self
invariant_of-self c = rise_set _ _ _ _ _ c.self.invariant (search rules) (search rules)

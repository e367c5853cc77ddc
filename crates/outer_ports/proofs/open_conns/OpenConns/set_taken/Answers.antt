use Rattle.std.proofs.Common.{rules}
use Rattle.outer_ports.proofs.OpenConnsLemmas.{rise_set}
use Rattle.outer_ports.proofs.open_conns.OpenConns.set_taken.Goals as goal

pub invariant_of-self : goal.invariant_of-self
invariant_of-self c = rise_set _ _ _ _ _ c.self.invariant (search rules) (search rules)

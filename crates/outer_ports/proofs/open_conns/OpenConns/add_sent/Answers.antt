use Rattle.std.proofs.Common.{rules}
use Rattle.outer_ports.proofs.OpenConnsLemmas.{rise_set}
use Rattle.outer_ports.proofs.open_conns.OpenConns.add_sent.Goals as goal

pub invariant_of-self-2 : goal.invariant_of-self-2
invariant_of-self-2 c = rise_set _ _ _ _ _ c.self.invariant (search rules) (search rules)

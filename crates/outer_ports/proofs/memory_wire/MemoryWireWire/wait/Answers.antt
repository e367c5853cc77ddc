use Rattle.outer_ports.proofs.MemoryWireLemmas.{named}
use Rattle.outer_ports.proofs.memory_wire.MemoryWireWire.wait.Goals as goal

pub returns-clause-waits : goal.returns-clause-waits
returns-clause-waits c =
    let n = c.name_longest.ensures.becomes in
    rw (← c.self.view_is) (named c.self.inside.hosts.items c.self.inside.conns c.name_longest.new.self c.name_longest.result c.self.inside.calls n.0 n.1 n.2)

use Rattle.std.proofs.Common.{◌≡◌, drop}
use Rattle.outer_ports.specs.Wire.{response_of}
use Rattle.outer_ports.proofs.memory_wire.response_for.Given as goal

abbrev pub invariant-loop-host : goal.invariant-loop-host
invariant-loop-host l = response_of l.hosts l.asked.host l.asked.port l.asked.sent ≡ response_of (drop l.host-index l.hosts) l.asked.host l.asked.port l.asked.sent

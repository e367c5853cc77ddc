use Rattle.std.proofs.Common.{length, ◌-◌, ◌<◌}
use Rattle.outer_ports.proofs.OpenConnsLemmas.{NoneBelow}
use Rattle.outer_ports.proofs.open_conns.place_of.Given as goal

abbrev pub invariant-loop-at : goal.invariant-loop-at
invariant-loop-at l = record { within : l.at < length l.conns; before : NoneBelow l.conns l.number l.at }

abbrev pub decreases-loop-at : goal.decreases-loop-at
decreases-loop-at l = length l.conns - l.at

use Rattle.std.proofs.Common.{ℕ, length, get_or, ◌<◌, ◌≤◌}
use Rattle.outer_ports.specs.declared.open_conns.OpenConn.{OpenConn}
use Rattle.outer_ports.proofs.open_conns.longest_waiting.Given as goal

abbrev pub invariant-loop-at : goal.invariant-loop-at
invariant-loop-at l = record {
  within : l.first < length l.conns;
  longest : (k : ℕ) (d : OpenConn) → k < l.at → (get_or l.conns l.first d).since ≤ (get_or l.conns k d).since;
}

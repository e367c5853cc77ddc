use Rattle.std.proofs.Common.{◌≡◌, ◌≤◌, length, ◌-◌}
use Rattle.std.specs.Io.KnownBytes.{prepend_known}
use Rattle.outer_ports.proofs.reading.read_all.Given as goal

abbrev pub invariant-loop-buf : goal.invariant-loop-buf
invariant-loop-buf g l = record {
  taken : g.S.Source.left l.initial.source ≡ prepend_known l.bytes (g.S.Source.left l.source);
  within : length l.bytes ≤ l.most;
  ends : g.S.Source.ends l.source ≡ g.S.Source.ends l.initial.source;
  apart : g.S.Source.apart l.source ≡ g.S.Source.apart l.initial.source;
  calm : g.S.Source.faults l.source ≡ g.S.Source.faults l.initial.source;
}

abbrev pub decreases-loop-buf : goal.decreases-loop-buf
decreases-loop-buf g l = l.most - length l.bytes

use Rattle.std.proofs.Common.{◌≡◌, ◌≤◌, ◌-◌, length}
use Rattle.std.specs.Io.KnownBytes.{prepend_known}
use Rattle.doc_server.specs.Writing.{request_limit}
use Rattle.doc_server.proofs.request.read_request.Given as goal

abbrev pub invariant-loop-buf : goal.invariant-loop-buf
invariant-loop-buf g l = record {
  taken : g.S.Source.left l.initial.source ≡ prepend_known l.request.bytes (g.S.Source.left l.source);
  within : length l.request.bytes ≤ request_limit;
  apart : g.S.Source.apart l.source ≡ g.S.Source.apart l.initial.source;
  calm : g.S.Source.faults l.source ≡ g.S.Source.faults l.initial.source;
}

abbrev pub decreases-loop-buf : goal.decreases-loop-buf
decreases-loop-buf g l = 65536 - length l.request.bytes

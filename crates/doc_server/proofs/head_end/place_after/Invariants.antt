use Rattle.std.proofs.Common.{◌≡◌, drop}
use Rattle.doc_server.specs.HeadEnd as spec
use Rattle.doc_server.proofs.head_end.place_after.Given as goal

abbrev pub invariant-loop-byte : goal.invariant-loop-byte
invariant-loop-byte l = spec.place_after l.fn.place l.bytes ≡ spec.place_after l.at (drop l.byte-index l.bytes)

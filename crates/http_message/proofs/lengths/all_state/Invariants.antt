use Rattle.std.proofs.Common.{◌≡◌, length}
use Rattle.http_message.specs.Lengths as spec
use Rattle.http_message.proofs.lengths.all_state.Given as goal

abbrev pub invariant-loop-at : goal.invariant-loop-at
invariant-loop-at l = record {
  at : l.at ≡ spec.first_len l.rest;
  left : spec.all_state l.length (spec.members l.list) ≡ spec.all_state l.length (spec.members l.rest);
}

abbrev pub decreases-loop-at : goal.decreases-loop-at
decreases-loop-at l = length l.rest

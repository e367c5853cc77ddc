use Rattle.std.proofs.Common.{◌≤◌, ◌-◌, length, take}
use Rattle.http_message.specs.State.{Continues, Grows}
use Rattle.http_message.proofs.body.Body.read.Given as goal

abbrev pub invariant-loop-at : goal.invariant-loop-at
invariant-loop-at l = record {
  within : l.at ≤ length l.piece;
  next : Continues l.initial.self (take l.at l.piece) l.self;
  grows : Grows l.initial.self l.self;
}

abbrev pub decreases-loop-at : goal.decreases-loop-at
decreases-loop-at l = length l.piece - l.at

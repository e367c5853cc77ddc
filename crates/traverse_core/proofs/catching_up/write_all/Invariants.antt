use Rattle.std.proofs.Common.{◌≡◌, None}
use Rattle.traverse_core.proofs.RunningOn.{WroteOn, text_left}
use Rattle.traverse_core.proofs.catching_up.write_all.Given as goal

abbrev pub invariant-loop : goal.invariant-loop
invariant-loop g l = record {
  wrote : WroteOn l.fn.run l.run;
  whole : l.run.halted ≡ None;
}

abbrev pub decreases-loop : goal.decreases-loop
decreases-loop g l = text_left l.run.out

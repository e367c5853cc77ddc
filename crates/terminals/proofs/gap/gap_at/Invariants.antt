use Rattle.std.proofs.Common.{◌≡◌, ◌≤◌, ◌-◌, length, drop, false}
use Rattle.terminals.specs.Utf8.{symbols_of}
use Rattle.terminals.specs.Gap.{gap_of}
use Rattle.terminals.proofs.gap.gap_at.Given as goal

abbrev pub invariant-loop-class : goal.invariant-loop-class
invariant-loop-class l = record {
  within : l.at ≤ length l.bytes;
  so_far : gap_of l.comment l.at (symbols_of (drop l.at l.bytes)) ≡ gap_of false l.from (symbols_of (drop l.from l.bytes));
}

abbrev pub decreases-loop-class : goal.decreases-loop-class
decreases-loop-class l = length l.bytes - l.at

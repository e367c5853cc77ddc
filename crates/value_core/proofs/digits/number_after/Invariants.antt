use Rattle.std.proofs.Common.{◌≡◌, ◌<◌, ◌^◌, drop}
use Rattle.value_core.specs.After.{number_after}
use Rattle.value_core.proofs.digits.number_after.Given as goal

abbrev pub invariant-loop-digit : goal.invariant-loop-digit
invariant-loop-digit l = record {
  small : l.number < 2 ^ 128;
  same : number_after l.number (drop l.digit-index l.digits) ≡ number_after l.fn.start l.digits;
}

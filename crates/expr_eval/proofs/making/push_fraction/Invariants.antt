use Rattle.std.proofs.Common.{◌≡◌, ◌<◌, ◌++◌}
use Rattle.std.specs.String.{string_bytes}
use Rattle.expr_eval.specs.Written.{last_digits, without_zeros, after_point}
use Rattle.expr_eval.proofs.making.push_fraction.Given as goal

abbrev pub invariant-loop-places : goal.invariant-loop-places
invariant-loop-places l = record {
  within : l.places < 18;
  written : string_bytes l.text ++ without_zeros (last_digits l.places l.parts) ≡ string_bytes l.fn.text ++ after_point (last_digits 18 l.parts);
}

abbrev pub decreases-loop-places : goal.decreases-loop-places
decreases-loop-places l = l.places

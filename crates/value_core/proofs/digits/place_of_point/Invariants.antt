use Rattle.std.proofs.Common.{◌≡◌, ℕ, ◌<◌, get_or, false, ◌==◌}
use Rattle.value_core.proofs.digits.place_of_point.Given as goal

abbrev pub invariant-loop-at : goal.invariant-loop-at
invariant-loop-at l = (k : ℕ) → k < l.at → (get_or l.text k 0 == 46) ≡ false

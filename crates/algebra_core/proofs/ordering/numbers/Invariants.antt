use Rattle.std.proofs.Common.{◌≡◌}
use Rattle.algebra_core.specs.Order.{numbers}
use Rattle.algebra_core.proofs.ordering.numbers.Given as goal

abbrev pub invariant-loop-i : goal.invariant-loop-i
invariant-loop-i l = l.all.items ≡ numbers l.i

use Rattle.std.proofs.Common.{◌≡◌, take}
use Rattle.algebra_core.proofs.algebra.copy_patterns.Given as goal

abbrev pub invariant-loop-pattern : goal.invariant-loop-pattern
invariant-loop-pattern l = l.all ≡ take l.pattern-index l.patterns

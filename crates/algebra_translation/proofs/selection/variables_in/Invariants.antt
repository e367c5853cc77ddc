use Rattle.std.proofs.Common.{◌≡◌, drop}
use Rattle.algebra_translation.specs.Views.{with_patterns, variables_in}
use Rattle.algebra_translation.proofs.selection.variables_in.Given as goal

abbrev pub invariant-loop-pattern : goal.invariant-loop-pattern
invariant-loop-pattern l = with_patterns l.all (drop l.pattern-index l.patterns) ≡ variables_in l.patterns

use Rattle.std.proofs.Common.{◌≡◌, drop}
use Rattle.algebra_translation.specs.Translation.{once_from, once}
use Rattle.algebra_translation.proofs.selection.once.Given as goal

abbrev pub invariant-loop-variable : goal.invariant-loop-variable
invariant-loop-variable l = once_from l.seen (drop l.variable-index l.variables) ≡ once l.variables

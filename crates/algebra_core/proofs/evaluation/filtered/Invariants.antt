use Rattle.std.proofs.Common.{◌≡◌, filter}
use Rattle.algebra_core.specs.Meaning.{holds}
use Rattle.algebra_core.proofs.evaluation.filtered.Given as goal

abbrev pub invariant-loop-row : goal.invariant-loop-row
invariant-loop-row l = l.kept.items ≡ filter (holds l.expr) l.yielded

use Rattle.std.proofs.Common.{◌≡◌}
use Rattle.algebra_core.specs.Meaning.{holds, left_joined}
use Rattle.algebra_core.proofs.evaluation.left_join_rows.Given as goal

abbrev pub invariant-loop-first : goal.invariant-loop-first
invariant-loop-first l = l.all.items ≡ left_joined (holds l.expr) l.yielded l.seconds

use Rattle.std.proofs.Common.{◌≡◌, map}
use Rattle.algebra_core.specs.Meaning.{restricted}
use Rattle.algebra_core.proofs.evaluation.restricted_rows.Given as goal

abbrev pub invariant-loop-row : goal.invariant-loop-row
invariant-loop-row l = l.all.items ≡ map (restricted l.names) l.yielded

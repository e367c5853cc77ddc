use Rattle.std.proofs.Common.{◌≡◌, map}
use Rattle.algebra_core.specs.Ranks.{ranked_of}
use Rattle.algebra_core.proofs.ordering.ranked_rows.Given as goal

abbrev pub invariant-loop-row : goal.invariant-loop-row
invariant-loop-row l = l.all.items ≡ map (ranked_of l.keys) l.yielded

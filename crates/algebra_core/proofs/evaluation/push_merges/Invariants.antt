use Rattle.std.proofs.Common.{◌≡◌, ◌++◌, take, flat_map}
use Rattle.algebra_core.specs.Meaning.{joined}
use Rattle.algebra_core.proofs.evaluation.push_merges.Given as goal

abbrev pub invariant-loop-other : goal.invariant-loop-other
invariant-loop-other l = l.all.items ≡ l.fn.all.items ++ flat_map (joined l.row) (take l.other-index l.others)

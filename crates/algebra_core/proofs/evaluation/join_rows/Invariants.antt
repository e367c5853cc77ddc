use Rattle.std.proofs.Common.{◌≡◌, take}
use Rattle.algebra_core.specs.Meaning.{join}
use Rattle.algebra_core.proofs.evaluation.join_rows.Given as goal

abbrev pub invariant-loop-first : goal.invariant-loop-first
invariant-loop-first l = l.all.items ≡ join (take l.first-index l.firsts) l.seconds

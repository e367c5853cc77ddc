use Rattle.std.proofs.Common.{◌≡◌, ◌++◌, take}
use Rattle.rows_core.specs.Patterns.{matches}
use Rattle.growing_graph.specs.Places.{kept_at}
use Rattle.growing_graph.proofs.near.push_matching_at.Given as goal

abbrev pub invariant-loop-place : goal.invariant-loop-place
invariant-loop-place l = l.out.items ≡ l.fn.out.items ++ kept_at (matches l.pattern) l.triples (take l.place-index l.places)

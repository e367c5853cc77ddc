use Rattle.std.proofs.Common.{◌≡◌, ◌++◌, drop}
use Rattle.rows_core.specs.Patterns.{matches}
use Rattle.growing_graph.specs.Places.{places_from}
use Rattle.growing_graph.proofs.near.push_matching_from.Given as goal

abbrev pub invariant-loop-place : goal.invariant-loop-place
invariant-loop-place l = l.out.items ++ places_from l.place (matches l.pattern) (drop l.place l.triples) ≡ l.fn.out.items ++ places_from l.from (matches l.pattern) (drop l.from l.triples)

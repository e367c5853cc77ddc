use Rattle.std.proofs.Common.{◌≡◌, ◌+◌, ◌++◌, length}
use Rattle.symmetric_join.specs.Keys.{merged_places}
use Rattle.symmetric_join.proofs.table.merge_places.Given as goal

abbrev pub invariant-loop : goal.invariant-loop
invariant-loop l =
    (l.out.items ++ merged_places l.near_left l.loose_left ≡ merged_places l.near l.loose) × (length l.near_left + length l.loose_left + l.counter ≡ length l.near + length l.loose)

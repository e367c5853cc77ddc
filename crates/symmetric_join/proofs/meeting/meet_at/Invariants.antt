use Rattle.std.proofs.Common.{◌≡◌, take}
use Rattle.std.specs.List.{flat_map}
use Rattle.symmetric_join.specs.Joins.{met, rows_at}
use Rattle.symmetric_join.proofs.meeting.meet_at.Given as goal

abbrev pub invariant-loop-place : goal.invariant-loop-place
invariant-loop-place l = l.out.items ≡ flat_map (met l.fed l.row) (rows_at l.others (take l.place-index l.places))

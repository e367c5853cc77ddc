use Rattle.std.proofs.Common.{◌≡◌, take}
use Rattle.std.specs.List.{flat_map}
use Rattle.symmetric_join.specs.Joins.{met}
use Rattle.symmetric_join.proofs.meeting.meet_all.Given as goal

abbrev pub invariant-loop-other : goal.invariant-loop-other
invariant-loop-other l = l.out.items ≡ flat_map (met l.fed l.row) (take l.other-index l.others)

use Rattle.std.proofs.Common.{◌≡◌, ◌+◌, drop}
use Rattle.http_message.specs.Lengths.{first_len}
use Rattle.http_message.proofs.lengths.end_of_member.Given as goal

abbrev pub invariant-loop-i : goal.invariant-loop-i
invariant-loop-i l = first_len l.list ≡ l.i + first_len (drop l.i l.list)

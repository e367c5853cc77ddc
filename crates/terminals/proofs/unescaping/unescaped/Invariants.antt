use Rattle.std.proofs.Common.{length}
use Rattle.terminals.proofs.Undoing.{Leaves}
use Rattle.terminals.proofs.unescaping.unescaped.Given as goal

abbrev pub invariant-loop-byte : goal.invariant-loop-byte
invariant-loop-byte l = Leaves l.out.items l.rest l.bytes

abbrev pub decreases-loop-byte : goal.decreases-loop-byte
decreases-loop-byte l = length l.rest

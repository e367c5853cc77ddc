use Rattle.std.proofs.Common.{◌≡◌, take, map}
use Rattle.terminals.specs.Values as value
use Rattle.terminals.proofs.texts.lowered.Given as goal

abbrev pub invariant-loop-byte : goal.invariant-loop-byte
invariant-loop-byte l = l.out.items ≡ map value.lower (take l.byte-index l.bytes)

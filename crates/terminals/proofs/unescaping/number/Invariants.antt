use Rattle.std.proofs.Common.{◌≡◌, drop}
use Rattle.terminals.specs.Values.{number_from}
use Rattle.terminals.proofs.unescaping.number.Given as goal

abbrev pub invariant-loop-byte : goal.invariant-loop-byte
invariant-loop-byte l = number_from l.number (drop l.byte-index l.digits) ≡ number_from 0 l.digits

use Rattle.std.proofs.Common.{◌≡◌, drop}
use Rattle.http_message.specs.Lengths.{number_from}
use Rattle.http_message.proofs.lengths.number_of.Given as goal

abbrev pub invariant-loop-b : goal.invariant-loop-b
invariant-loop-b l = number_from 0 l.digits ≡ number_from l.n (drop l.b-index l.digits)

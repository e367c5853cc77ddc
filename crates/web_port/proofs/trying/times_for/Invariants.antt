use Rattle.std.proofs.Common.{◌≡◌, drop}
use Rattle.web_port.specs.MemoryWeb.{times_in}
use Rattle.web_port.proofs.trying.times_for.Given as goal

abbrev pub invariant-loop-entry : goal.invariant-loop-entry
invariant-loop-entry l = times_in l.fails l.text ≡ times_in (drop l.entry-index l.fails) l.text

use Rattle.std.proofs.Common.{◌≡◌, take}
use Rattle.web_port.proofs.memory_links.copy_fails.Given as goal

abbrev pub invariant-loop-entry : goal.invariant-loop-entry
invariant-loop-entry l = l.copy.items ≡ take l.entry-index l.fails

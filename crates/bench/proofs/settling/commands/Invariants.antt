use Rattle.traverse_core.specs.Steps.{AllMayBe}
use Rattle.bench.proofs.settling.commands.Given as goal

abbrev pub invariant-loop-number : goal.invariant-loop-number
invariant-loop-number g l = AllMayBe g.J.Job.run l.commands.items

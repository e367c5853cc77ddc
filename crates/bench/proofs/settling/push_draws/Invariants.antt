use Rattle.traverse_core.specs.Steps.{AllMayBe}
use Rattle.bench.proofs.settling.push_draws.Given as goal

abbrev pub invariant-loop-triple : goal.invariant-loop-triple
invariant-loop-triple g l = AllMayBe g.J.Job.run l.commands.items

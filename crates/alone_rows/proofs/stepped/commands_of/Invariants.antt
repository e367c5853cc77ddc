use Rattle.traverse_core.specs.Steps.{AllMayBe}
use Rattle.alone_rows.proofs.stepped.commands_of.Given as goal

abbrev pub invariant-loop-call : goal.invariant-loop-call
invariant-loop-call g l = AllMayBe g.J.Job.run l.commands.items

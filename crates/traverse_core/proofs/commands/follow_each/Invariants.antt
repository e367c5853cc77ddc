use Rattle.std.proofs.Common.{◌≡◌, List, ◌++◌}
use Rattle.std.specs.VecDeque.{deque_len}
use Rattle.traverse_core.specs.declared.steps.Command.{Command}
use Rattle.traverse_core.specs.Steps.{AllMayBe, Follows}
use Rattle.traverse_core.proofs.commands.follow_each.Given as goal

-- the commands so far were followed, and the others are left
abbrev pub invariant-loop-command : goal.invariant-loop-command
invariant-loop-command g l = record {
  made : List Command;
  all : l.fn.commands.items ≡ made ++ l.commands.items;
  follows : Follows g.J.Job.run made l.fn.run l.run;
  may : AllMayBe g.J.Job.run l.commands.items;
}

abbrev pub decreases-loop-command : goal.decreases-loop-command
decreases-loop-command g l = deque_len l.commands

use Rattle.std.proofs.Common.{◌≡◌}
use Rattle.link_queue.specs.Table.{flying}
use Rattle.traverse_core.proofs.alone.give_all_back.Given as goal

abbrev pub invariant-loop-number : goal.invariant-loop-number
invariant-loop-number g l = l.run ≡ record l.fn.run { table = l.run.table }

abbrev pub decreases-loop-number : goal.decreases-loop-number
decreases-loop-number g l = flying l.run.table

use Rattle.std.proofs.Common.{◌-◌, length}
use Rattle.traverse_core.specs.Steps.{DrawsOn}
use Rattle.traverse_core.proofs.catching_up.draw_all.Given as goal

abbrev pub invariant-loop : goal.invariant-loop
invariant-loop g l = DrawsOn l.fn.run l.run

abbrev pub decreases-loop : goal.decreases-loop
decreases-loop g l = length l.run.log - l.run.drawn

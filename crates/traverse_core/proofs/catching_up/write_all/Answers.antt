use Rattle.traverse_core.proofs.RunningOn.{wrote_less}
use Rattle.traverse_core.proofs.catching_up.write_all.Goals as goal

pub loop-smaller : goal.loop-smaller
loop-smaller g c = let w = rw c.in-Wrote.is at c.in_ok-write.ensures.step in wrote_less _ _ w.0

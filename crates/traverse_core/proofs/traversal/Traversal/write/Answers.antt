use Rattle.traverse_core.proofs.Kept.{wrote_ill, wrote_well}
use Rattle.traverse_core.proofs.traversal.Traversal.write.Goals as goal

pub invariant_of-self-in-Failed : goal.invariant_of-self-in-Failed
invariant_of-self-in-Failed g c = wrote_ill _ _ _ _ _ _ _ _ _ c.self.invariant c.in-Failed.is c.in_ok-written.ensures.step

pub invariant_of-self-in_default : goal.invariant_of-self-in_default
invariant_of-self-in_default g c = wrote_well _ _ _ _ _ _ _ _ _ c.self.invariant c.in_default.not-Failed c.in_ok-written.ensures.step

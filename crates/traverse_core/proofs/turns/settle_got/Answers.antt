use Rattle.traverse_core.proofs.turns.settle_got.Goals as goal

pub settle-requires-clause-may : goal.settle-requires-clause-may
settle-requires-clause-may g c = λ u at. c.requires.may u c.in_ok-found.found at (c.in_ok-found.ensures.value u at)

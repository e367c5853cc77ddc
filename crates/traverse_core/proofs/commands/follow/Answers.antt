use Rattle.traverse_core.proofs.commands.follow.Goals as goal

pub returns-in-Settle-clause-ok : goal.returns-in-Settle-clause-ok
returns-in-Settle-clause-ok g c = rw c.in-Settle.is c.settle.ensures.ok

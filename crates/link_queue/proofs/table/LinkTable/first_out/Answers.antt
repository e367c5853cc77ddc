use Rattle.std.proofs.Common.{◌∙◌, sym, refl}
use Rattle.link_queue.proofs.Tables.{out_state, out_least, none_flies, flies_none}
use Rattle.link_queue.proofs.table.LinkTable.first_out.Goals as goal

pub returns-in-Some-clause-some : goal.returns-in-Some-clause-some
returns-in-Some-clause-some c = rw (← c.self.view_is) (out_state c.self.inside.map.entries _ c.in-Some.ensures)

pub returns-in-Some-clause-least : goal.returns-in-Some-clause-least
returns-in-Some-clause-least c = rw (← c.self.view_is) (λ k less. out_least c.self.inside.map.entries _ k c.in-Some.ensures less)

pub returns-in-Some-clause-none : goal.returns-in-Some-clause-none
returns-in-Some-clause-none c = ((λ h. absurd (cc)), (λ h. let none = c.in-Some.ensures ∙ flies_none c.self.inside.map.entries (rw c.self.view_is h) in absurd (cc)))

pub returns-in-None-clause-none : goal.returns-in-None-clause-none
returns-in-None-clause-none c = ((λ h. rw (← c.self.view_is) (none_flies c.self.inside.map.entries (sym c.in-None.ensures))), (λ h. refl))

use Rattle.std.proofs.Common.{List, [], ◌∷◌, ◌++◌, sym, ap, ◌∙◌, subst, inr, append_assoc}
use Rattle.rdf_terms.specs.Lists.{IsIn}
use Rattle.traverse_core.specs.declared.steps.Command.{Command}
use Rattle.traverse_core.proofs.Machine.{follows_more}
use Rattle.traverse_core.proofs.commands.follow_each.Goals as goal

pub loop-command-preserved : goal.loop-command-preserved
loop-command-preserved g c =
    let made = c.loop-command.invariant.made in
    let next = c.in-Some.command in
    let rest = c.pop_front.new.self.items in
    record {
      made = made ++ next ∷ [];
      all = c.loop-command.invariant.all ∙ (ap (λ (l : List Command). made ++ l) c.in-Some.ensures.items ∙ sym (append_assoc made (next ∷ []) rest));
      follows = follows_more g.J.Job.run made next _ _ _ c.loop-command.invariant.follows c.in_ok-follow.ensures.ok;
      may = λ d h. c.loop-command.invariant.may d (subst (λ (l : List Command). IsIn l d) (sym c.in-Some.ensures.items) (inr h));
    }

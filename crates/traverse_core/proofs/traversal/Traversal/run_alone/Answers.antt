use Rattle.std.proofs.Common.{◌≡◌, ◌∙◌, sym, ap}
use Rattle.std.specs.Prelude.{None}
use Rattle.traverse_core.proofs.Sharing.{exactly_at, totals_at}
use Rattle.traverse_core.proofs.traversal.Traversal.run_alone.Goals as goal

pub returns-clause-exact : goal.returns-clause-exact
returns-clause-exact g c = λ done.
    let same = ap (λ s. s.halted) c.give_all_back.ensures.same in
    let whole : c.run_to_end.new.run.halted ≡ None = sym same ∙ (sym c.halted.ensures ∙ c.ran_of.ensures.done.0 done) in
    exactly_at _ _ c.args.self.now c.run_to_end.new.run c.give_all_back.new.run c.requires.idle (c.run_to_end.ensures.idle whole) (ap (λ s. s.entries) c.give_all_back.ensures.same) (c.run_to_end.ensures.paid whole)

pub returns-clause-totals : goal.returns-clause-totals
returns-clause-totals g c =
    totals_at _ _ _ c.args.self.now c.run_to_end.new.run c.give_all_back.new.run c.requires.idle (ap (λ s. s.entries) c.give_all_back.ensures.same) c.run_to_end.ensures.covered

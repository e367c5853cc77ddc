use Rattle.std.proofs.Common.{◌≡◌, [], false, sym, ◌∙◌, ap, subst}
use Rattle.std.specs.Prelude.{Ok, IsTrue}
use Rattle.traverse_core.specs.State.{State, is_running, MayClose}
use Rattle.traverse_core.proofs.Sharing.{may_close, in_step_at}
use Rattle.traverse_core.proofs.turns.turn.Goals as goal

pub returns-clause-none : goal.returns-clause-none
returns-clause-none g c = λ e.
    let over : c.in_ok-settled.settled ≡ false = cc in
    let none = c.in_ok-settled.ensures.none (ap (λ b. Ok b) over) in
    let begun = c.in_ok-begin.ensures.none (ap (λ b. Ok b) c.if-branch.false) in
    let left = c.in_ok-begin.ensures.full (ap (λ b. Ok b) c.if-branch.false) in
    let ready = c.in_ok-catch_up.ensures.ready in
    let step = in_step_at g.J.Job.run _ _ c.args.run.now c.catch_up.new.run _ ready.runs c.in_ok-catch_up.ensures.same.table c.requires.step in
    let idle : (g.F.Fetcher.port c.args.fetcher.now).flights ≡ [] = ap (λ f. (g.F.Fetcher.port f).flights) (sym begun.1) ∙ none.1 in
    let close = may_close g.J.Job.run _ _ c.catch_up.new.run _ ready step idle left in
    let same : c.settle_next.new.run ≡ c.catch_up.new.run = none.0 ∙ begun.0 in
    (subst (λ (s : State). IsTrue (is_running s)) (sym same) ready.runs, subst (MayClose g.J.Job.run) (sym same) close, none.2)

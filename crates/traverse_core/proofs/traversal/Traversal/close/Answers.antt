use Rattle.std.proofs.Common.{◌≡◌, ◌∙◌, [], refl, ap, sym, subst, false}
use Rattle.result_writer.specs.Output.{Output, closed_by}
use Rattle.traverse_core.specs.State.{State, is_running, MayClose}
use Rattle.traverse_core.proofs.Ending.{closes_with}
use Rattle.traverse_core.proofs.Kept.{running_open, closed_well}
use Rattle.traverse_core.proofs.traversal.Traversal.close.Goals as goal

pub invariant_of-self-2 : goal.invariant_of-self-2
invariant_of-self-2 g c =
    let open' : c.self.inside.output.closed ≡ false = ap (λ s. s.out.closed) c.self.view_is ∙ running_open c.args.self.now c.requires.runs in
    closed_well _ _ _ _ _ _ _ _ _ _ c.self.invariant (ap (λ s. is_running s) c.self.view_is ∙ c.requires.runs) open' (subst (MayClose g.J.Job.run) (sym c.self.view_is) c.requires.may) refl c.in_ok-rows.ensures.answers c.in_ok-close.ensures.ok

pub returns-clause-ok : goal.returns-clause-ok
returns-clause-ok g c =
    let inside = c.self.inside in
    let before : State = record { table = inside.table; entries = inside.entries.items; log = inside.log; drawn = inside.drawn; out = inside.output; halted = inside.halted } in
    let shown : before ≡ c.args.self.now = c.self.view_is in
    let rows = c.in_ok-rows.rows.items in
    let closed = ap (λ (o : Output). record before { out = o }) c.in_ok-close.ensures.ok ∙ ap (λ (s : State). record s { out = closed_by s.out rows }) shown in
    let none : c.args.self.now.out.rows ≡ [] = ap (λ (s : State). s.out.rows) (sym shown) ∙ c.self.invariant.kept.output.early (ap (λ (s : State). s.out.closed) shown ∙ running_open c.args.self.now c.requires.runs) in
    closes_with g.J.Job.run c.args.self.now _ inside.query inside.log rows none c.self.invariant.same_query (ap (λ (s : State). s.log) shown) c.in_ok-rows.ensures.answers closed

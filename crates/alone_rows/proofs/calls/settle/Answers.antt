use Rattle.std.proofs.Common.{◌≡◌, Ok, Some, Bool, true, sym, ap, subst, ◌∙◌}
use Rattle.std.specs.Option.{option_map}
use Rattle.std.proofs.lemmas.Option.{same_Some}
use Rattle.link_queue.specs.Table.{link_at}
use Rattle.traverse_core.specs.Run.{MayFind}
use Rattle.alone_rows.proofs.calls.settle.Goals as goal

-- the number in flight is that of the link, and nothing has changed since
pub settle-requires-clause-may : goal.settle-requires-clause-may
settle-requires-clause-may g c = λ u at.
    let out = c.is_out.ensures.0 c.if-not-is_out.false in
    let same = c.is_ready.ensures.same (c.in_ok-is_ready.was ∙ ap (λ (b : Bool). Ok b) c.if-not-branch.false) in
    let there : link_at c.is_ready.new.run.table c.args.number ≡ Some c.args.link.now = ap (λ s. link_at s.table c.args.number) same ∙ ap (option_map (λ row. row.0)) out in
    subst (λ l. MayFind g.J.Job.run l c.args.found) (same_Some c.args.link.now u (sym there ∙ at)) c.requires.may

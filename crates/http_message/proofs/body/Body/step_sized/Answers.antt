use Rattle.std.proofs.Common.{◌≡◌, ◌<◌, ◌≤◌, length, ap, ◌∙◌, arith, subst}
use Rattle.http_message.specs.State.{IsOpen}
use Rattle.http_message.specs.declared.stages.BodyStage.TheVariants as stage
use Rattle.http_message.proofs.BodyLemmas.{sized_steps}
use Rattle.http_message.proofs.body.Body.step_sized.Goals as goal

pub returns-clause-ok : goal.returns-clause-ok
returns-clause-ok c =
    let n = c.at_most-n.result in
    let q : c.self.inside.stage ≡ stage.Sized c.args.left = ap (λ s. s.stage) c.self.view_is ∙ c.requires.stage in
    let left_some : 0 < c.args.left = subst (λ s. IsOpen s c.self.inside.limit c.self.inside.body.items) q c.self.invariant in
    let some : 0 < n = omega (arith, left_some) in
    let within : n ≤ length c.args.piece.now = omega arith in
    let most : n ≤ c.args.left = omega arith in
    rw (← c.self.view_is) (sized_steps c.self.inside.limit c.self.inside.reply c.self.inside.body.items c.extend_from_slice.new.self.items c.self.inside.stage c.sized_stage-self-inside.result c.args.left n c.args.piece.now q some within most c.in_ok-extend_from_slice.ensures.items c.sized_stage-self-inside.ensures.next)

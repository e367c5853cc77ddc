use Rattle.std.proofs.Common.{◌≡◌, ◌+◌, ◌<◌, ◌≤◌, length, ap, ◌∙◌, arith, subst}
use Rattle.http_message.specs.State.{IsOpen}
use Rattle.http_message.specs.declared.stages.BodyStage.TheVariants as stage
use Rattle.http_message.proofs.BodyLemmas.{data_steps, over_steps}
use Rattle.http_message.proofs.body.Body.step_data.Goals as goal

pub returns-clause-ok : goal.returns-clause-ok
returns-clause-ok c =
    let n = c.at_most-n.result in
    let q : c.self.inside.stage ≡ stage.Data c.args.left = ap (λ s. s.stage) c.self.view_is ∙ c.requires.stage in
    let left_some : 0 < c.args.left = subst (λ s. IsOpen s c.self.inside.limit c.self.inside.body.items) q c.self.invariant in
    let some : 0 < n = omega (arith, left_some) in
    let within : n ≤ length c.args.piece.now = omega arith in
    let most : n ≤ c.args.left = omega arith in
    let room : length c.self.inside.body.items + n ≤ c.self.inside.limit = omega arith in
    rw (← c.self.view_is) (data_steps c.self.inside.limit c.self.inside.reply c.self.inside.body.items c.extend_from_slice.new.self.items c.self.inside.stage c.data_stage-self-inside.result c.args.left n c.args.piece.now q some within most room c.in_ok-extend_from_slice.ensures.items c.data_stage-self-inside.ensures.next)

pub returns-then-room-n-clause-ok : goal.returns-then-room-n-clause-ok
returns-then-room-n-clause-ok c =
    let n = c.at_most-n.result in
    let q : c.self.inside.stage ≡ stage.Data c.args.left = ap (λ s. s.stage) c.self.view_is ∙ c.requires.stage in
    let left_some : 0 < c.args.left = subst (λ s. IsOpen s c.self.inside.limit c.self.inside.body.items) q c.self.invariant in
    let some : 0 < n = omega (arith, left_some) in
    let within : n ≤ length c.args.piece.now = omega arith in
    let most : n ≤ c.args.left = omega arith in
    let past : c.self.inside.limit < length c.self.inside.body.items + n = omega arith in
    rw (← c.self.view_is) (over_steps c.self.inside.limit c.self.inside.reply c.self.inside.body.items c.self.inside.stage c.args.left n c.args.piece.now q some within most past)

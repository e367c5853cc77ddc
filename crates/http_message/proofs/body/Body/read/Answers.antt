use Rattle.std.proofs.Common.{drop, subst, arith, length-drop}
use Rattle.http_message.specs.State.{Steps}
use Rattle.http_message.proofs.BodyLemmas.{continues_more, grows_more}
use Rattle.http_message.proofs.body.Body.read.Goals as goal

pub loop-at-preserved : goal.loop-at-preserved
loop-at-preserved c =
    let at = c.loop-at.at in
    let n = c.in_ok-at.field-0 in
    let steps : Steps c.loop-at.self (drop at c.args.piece.now) n c.step.new.self = subst (λ p. Steps c.loop-at.self p n c.step.new.self) c.tail.ensures c.in_ok-at.ensures.ok in
    record {
      within = omega (arith, steps.within, length-drop at c.args.piece.now);
      next = continues_more c.args.self.now c.loop-at.self c.step.new.self c.args.piece.now at n c.loop-at.invariant.next steps.next;
      grows = grows_more c.args.self.now c.loop-at.self c.step.new.self c.loop-at.invariant.grows steps.grows;
    }

use Rattle.std.proofs.Common.{drop, subst, ◌∙◌, arith, length-drop}
use Rattle.http_message.specs.Views.{Takes}
use Rattle.http_message.proofs.ReadingLemmas.{takes_more}
use Rattle.http_message.proofs.reading.Reading.read.Goals as goal

pub loop-at-preserved : goal.loop-at-preserved
loop-at-preserved c =
    let at = c.loop-at.at in
    let n = c.in_ok-at.field-0 in
    let takes : Takes c.loop-at.self (drop at c.args.piece.now) n c.step.new.self = subst (λ p. Takes c.loop-at.self p n c.step.new.self) c.tail.ensures c.in_ok-at.ensures in
    record {
      within = omega (arith, takes.within, length-drop at c.args.piece.now);
      next = takes_more c.args.self.now c.loop-at.self c.step.new.self c.args.piece.now at n c.loop-at.invariant.next takes.next;
      limit = takes.limit ∙ c.loop-at.invariant.limit;
    }

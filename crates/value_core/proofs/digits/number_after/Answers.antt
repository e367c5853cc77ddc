use Rattle.std.proofs.Common.{◌∙◌, sym, ap, drop, arith, get_or, ◌+◌, ◌*◌, ◌-◌}
use Rattle.std.proofs.lemmas.List.{at_drop_all}
use Rattle.value_core.specs.After.{number_after}
use Rattle.value_core.proofs.AfterLemmas.{number_after-more, number_after-ge, number_after-none}
use Rattle.value_core.proofs.digits.number_after.Goals as goal

pub returns-in-None : goal.returns-in-None
returns-in-None c = λ small.
    let digits = c.args.digits.now in
    let at = c.loop-digit.digit-index in
    let more = number_after-more c.loop-digit.number digits at c.loop-digit-test.true in
    let above = number_after-ge (c.loop-digit.number * 10 + (get_or digits at 0 - 48)) (drop (at + 1) digits) in
    c.in-None.ensures (omega (arith, more, above, c.loop-digit.invariant.same))

pub loop-digit-preserved : goal.loop-digit-preserved
loop-digit-preserved c =
    let digits = c.args.digits.now in
    let at = c.loop-digit.digit-index in
    let more = number_after-more c.loop-digit.number digits at c.loop-digit-test.true in
    record {
      small = omega (arith, c.in-Some.ensures);
      same = ap (λ n. number_after n (drop (at + 1) digits)) c.in-Some.ensures.1 ∙ sym more ∙ c.loop-digit.invariant.same;
    }

pub returns : goal.returns
returns c =
    let none = at_drop_all (number_after c.loop-digit.number) c.args.digits.now c.loop-digit.digit-index c.loop-digit-test.false in
    let same = sym (number_after-none c.loop-digit.number) ∙ sym none ∙ c.loop-digit.invariant.same in
    (omega (arith, same, c.loop-digit.invariant.small), same)

use Rattle.std.proofs.Common.{Bool, ◌+◌, drop, sym, ap, ◌∙◌, arith, length-drop}
use Rattle.terminals.specs.Utf8.{symbols_of}
use Rattle.terminals.specs.Gap.{gap_of}
use Rattle.terminals.proofs.Gaps.{gap_more, gap_stops, gap_over}
use Rattle.terminals.proofs.gap.gap_at.Goals as goal

pub loop-class-preserved : goal.loop-class-preserved
loop-class-preserved c = record {
  within = omega (arith, c.in-Some.ensures.within, length-drop c.loop-class.at c.args.bytes.now);
  so_far = ap (λ (b : Bool). gap_of b (c.loop-class.at + c.in-Some.width) (symbols_of (drop (c.loop-class.at + c.in-Some.width) c.args.bytes.now))) c.goes_on-comment.ensures
      ∙ gap_more c.args.bytes.now c.loop-class.comment c.loop-class.at c.in-Some.width c.in-Some.class c.in-Some.ensures.value (omega (arith, c.in-Some.ensures.within)) (sym c.is_gap.ensures ∙ c.if-not-is_gap.false)
      ∙ c.loop-class.invariant.so_far;
}

pub returns-then-not-is_gap-clause-value : goal.returns-then-not-is_gap-clause-value
returns-then-not-is_gap-clause-value c = c.gap_stop.ensures.value
    ∙ gap_stops c.args.bytes.now c.loop-class.comment c.loop-class.at c.in-Some.width c.in-Some.class c.in-Some.ensures.value (omega (arith, c.in-Some.ensures.within)) (sym c.is_gap.ensures ∙ c.if-not-is_gap.true)
    ∙ c.loop-class.invariant.so_far

pub returns-clause-value : goal.returns-clause-value
returns-clause-value c = gap_over c.args.bytes.now c.loop-class.comment c.loop-class.at c.in_default.ensures.value ∙ c.loop-class.invariant.so_far

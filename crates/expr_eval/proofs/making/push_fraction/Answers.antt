use Rattle.std.proofs.Common.{◌∙◌, ap, sym, arith, ◌+◌, ◌-◌, ◌/◌, ◌%◌, ◌^◌, ◌++◌, append-nil}
use Rattle.std.specs.String.{string_bytes}
use Rattle.expr_eval.specs.Written.{last_digits, without_zeros}
use Rattle.expr_eval.proofs.DigitLemmas.{first_digit, digits_left, none_left, left_positive, one_more}
use Rattle.expr_eval.proofs.making.push_fraction.Goals as goal

pub loop-places-init : goal.loop-places-init
loop-places-init c =
    let old = string_bytes c.args.text.now in
    let n = c.args.parts in
    record {
      within = omega arith;
      written =
          one_more old (string_bytes c.push_digit.new.text) (48 + n / 10 ^ 17 % 10) (without_zeros (last_digits 17 n)) c.in_ok-push_digit.ensures
          ∙ ap (λ s. old ++ s) (sym (first_digit n));
    }

pub overflow_sub-places : goal.overflow_sub-places
overflow_sub-places c = omega (arith, left_positive c.loop-places.places c.args.parts (sym c.is_left.ensures ∙ c.loop-places-test.true))

pub loop-places-preserved : goal.loop-places-preserved
loop-places-preserved c =
    let old = string_bytes c.loop-places.text in
    let n = c.args.parts in
    let p = c.loop-places.places in
    record {
      within = omega arith;
      written =
          one_more old (string_bytes c.push_digit-in-loop-places.new.text) (48 + n / 10 ^ (p - 1) % 10) (without_zeros (last_digits (p - 1) n)) c.in_ok-push_digit-2.ensures
          ∙ ap (λ s. old ++ s) (sym (digits_left p n (sym c.is_left.ensures ∙ c.loop-places-test.true)))
          ∙ c.loop-places.invariant.written;
    }

pub returns : goal.returns
returns c =
    let old = string_bytes c.loop-places.text in
    let n = c.args.parts in
    let p = c.loop-places.places in
    sym (append-nil old)
    ∙ ap (λ s. old ++ s) (sym (none_left p n (sym c.is_left.ensures ∙ c.loop-places-test.false)))
    ∙ c.loop-places.invariant.written

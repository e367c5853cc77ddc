use Rattle.std.proofs.Common.{sym, arith, ◌==◌, length}
use Rattle.std.proofs.Common.{eq-eqb}
use Rattle.std.proofs.lemmas.List.Sums.{position_or_len_is}
use Rattle.value_core.proofs.digits.place_of_point.Goals as goal

pub returns-then-c-eq46 : goal.returns-then-c-eq46
returns-then-c-eq46 c =
    sym (position_or_len_is (λ c'. c' == 46) c.args.text.now c.loop-at.at 0 (omega arith) c.loop-at.invariant (λ _. eq-eqb _ _ c.if-c-eq46.true))

pub returns : goal.returns
returns c =
    sym (position_or_len_is (λ c'. c' == 46) c.args.text.now (length c.args.text.now) 0 (omega arith) (λ k h. c.loop-at.invariant k (omega arith)) (λ h. absurd (omega arith)))

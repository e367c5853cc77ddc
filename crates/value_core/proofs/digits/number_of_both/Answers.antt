use Rattle.std.proofs.Common.{◌≡◌, ◌∙◌, ap, arith, ◌++◌}
use Rattle.value_core.specs.Digits.{whole_of}
use Rattle.value_core.specs.After.{number_after}
use Rattle.value_core.proofs.AfterLemmas.{number_after-append, number_after-ge}
use Rattle.value_core.proofs.digits.number_of_both.Goals as goal

pub returns-in-Some : goal.returns-in-Some
returns-in-Some c =
    let front = c.args.front.now in
    let back = c.args.back.now in
    let both : number_after c.in-Some.start back ≡ whole_of (front ++ back) =
    ap (λ n. number_after n back) c.in-Some.ensures.1 ∙ number_after-append front back in
    rw both at c.number_after.ensures

pub returns-in-None : goal.returns-in-None
returns-in-None c = λ small.
    let front = c.args.front.now in
    let back = c.args.back.now in
    c.in-None.ensures (omega (arith, number_after-ge (whole_of front) back, number_after-append front back))

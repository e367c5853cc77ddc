use Rattle.std.proofs.Common.{◌≡◌, ◌∙◌, sym, ap, ◌==◌, true, false, drop, ◌^◌}
use Rattle.std.specs.List.{list_all}
use Rattle.value_core.specs.Below.{below}
use Rattle.value_core.proofs.ScaledLemmas.{scaled_of-whole, scaled_of-cut, back_digits}
use Rattle.value_core.proofs.digits.scaled.Goals as goal

pub returns-then-all_zeros : goal.returns-then-all_zeros
returns-then-all_zeros c =
    let front = c.args.front.now in
    let back = c.args.back.now in
    let zeros : list_all (λ c'. c' == 48) (drop c.min-kept.result back) ≡ true = cc in
    c.scaled_by.ensures ∙ ap (below (2 ^ 128)) (sym (scaled_of-whole front back c.min-kept.result c.min-kept.ensures (back_digits front back c.requires) zeros))

pub returns-else-all_zeros : goal.returns-else-all_zeros
returns-else-all_zeros c =
    let front = c.args.front.now in
    let back = c.args.back.now in
    let zeros : list_all (λ c'. c' == 48) (drop c.min-kept.result back) ≡ false = cc in
    ap (below (2 ^ 128)) (sym (scaled_of-cut front back c.min-kept.result c.min-kept.ensures (back_digits front back c.requires) zeros))

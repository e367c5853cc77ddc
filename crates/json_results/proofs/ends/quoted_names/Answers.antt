use Rattle.std.proofs.Common.{◌++◌, sym, ap, ◌∙◌}
use Rattle.json.specs.Print.{quoted}
use Rattle.json_results.proofs.Names.{names_next}
use Rattle.json_results.proofs.ends.quoted_names.Goals as goal

pub loop-i-preserved : goal.loop-i-preserved
loop-i-preserved c =
    let parted = c.in_ok-extend.ensures.ok ∙ (λ k. c.loop-i.invariant k ++ c.separator.ensures k) in
    let name = c.as_slice.ensures ∙ (c.in_ok-quoted_text.ensures ∙ ap quoted c.as_str.ensures) in
    c.in_ok-extend-2.ensures.ok ∙ ((λ k. parted k ++ name k) ∙ sym (names_next c.args.names.now c.loop-i.i c.index-names-i.result c.loop-i-test.true c.index-names-i.is))

use Rattle.std.proofs.Common.{◌++◌, List, ℕ, ◌∙◌, ap, append_assoc}
use Rattle.json.specs.Token.{Token}
use Rattle.json.specs.Tree.{json_tokens}
use Rattle.json.specs.Print.{print}
use Rattle.serde_json.specs.Data.{object, no_members}
use Rattle.serde_json.specs.Written.{outline}
use Rattle.serde_json.proofs.Texts.{print-outline}
use Rattle.json_results.specs.Results.{row_members, row_object}
use Rattle.json_results.proofs.row.append_row.Goals as goal

pub returns-in-Ok-clause-ok : goal.returns-in-Ok-clause-ok
returns-in-Ok-clause-ok c =
    let row = object (row_members c.args.columns.now c.args.cells.now no_members) in
    let text = row_object c.args.columns.now c.args.cells.now in
    let held = c.args.text.now.items in
    let tokens = c.in-Ok.ensures.ok ∙ ap (λ (l : List Token). l ++ json_tokens (outline row)) c.new-writer.ensures.tokens in
    let printed = ap print tokens ∙ print-outline row in
    let parted = ap (λ v. v.items) c.replace.ensures.value ∙ c.in_ok-extend_from_slice.ensures.items in
    let before = c.in-Ok.ensures.before ∙ (c.new-writer.ensures.before ∙ parted) in
    c.into_inner.ensures.items ∙ ((λ k. before k ++ printed k) ∙ (append_assoc held c.before_row.result.now text ∙ ap (λ (l : List ℕ). held ++ (l ++ text)) c.before_row.ensures))

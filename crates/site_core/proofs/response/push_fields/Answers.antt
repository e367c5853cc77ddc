use Rattle.std.proofs.Common.{◌≡◌, ◌++◌, List, ℕ, append_assoc}
use Rattle.std.specs.Prelude.{codes}
use Rattle.site_core.specs.Serving as spec
use Rattle.site_core.proofs.response.push_fields.Goals as goal

pub returns : goal.returns
unfolding spec.reply_fields
returns c =
    let first = c.in_ok-push_field_if_any.ensures in
    let second = c.in_ok-push_field_if_any-2.ensures in
    let last : List ℕ = spec.line_of_field (codes "Location") c.args.reply.now.location in
    let whole : c.push_field_if_any-2.new.text ++ last ≡ c.args.text.now ++ spec.reply_fields c.args.reply.now = rw (second, first) (simp append_assoc) in
    rw (← whole) c.push_field_if_any-3.ensures

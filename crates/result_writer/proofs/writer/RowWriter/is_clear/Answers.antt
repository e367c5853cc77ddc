use Rattle.std.proofs.Common.{◌≡◌, ◌∙◌, ap, arith, length}
use Rattle.result_writer.proofs.PieceLemmas.{left_none, same_by_test}
use Rattle.result_writer.proofs.writer.RowWriter.is_clear.Goals as goal

pub returns-else-self-len : goal.returns-else-self-len
returns-else-self-len g c =
    let all : length c.self.inside.text.items ≡ c.len.result = omega arith in (
      (λ t. absurd (c.if-self-len.false (same_by_test c.self.inside.at c.len.result t))),
      (λ k. absurd (c.if-self-len.false (left_none c.self.inside.at c.self.inside.text.items c.self.invariant.at_within (ap (λ o. o.pending) c.self.view_is ∙ k.0) ∙ all))),
    )

use Rattle.std.proofs.Common.{◌<◌, ◌∙◌, ap, arith, length}
use Rattle.result_writer.proofs.PieceLemmas.{some_left}
use Rattle.result_writer.proofs.writer.RowWriter.write.Goals as goal

pub returns-then-self-len-clause-clear : goal.returns-then-self-len-clause-clear
returns-then-self-len-clause-clear g c =
    let less : c.self.inside.at < length c.self.inside.text.items = omega arith in
    ((λ e. absurd (c.write_text.ensures.some e)), (λ k. absurd (some_left c.self.inside.at c.self.inside.text.items less (ap (λ o. o.pending) c.self.view_is ∙ k.0))))

use Rattle.std.proofs.Common.{◌≡◌, List, ℕ, ap, sym, subst, length}
use Rattle.rdf_terms.specs.Lists.{IsIn}
use Rattle.rows_core.specs.Rows.{Cells}
use Rattle.result_writer.proofs.PieceLemmas.{output_more}
use Rattle.result_writer.proofs.writer.RowWriter.close.Goals as goal

pub invariant_of-self-2 : goal.invariant_of-self-2
invariant_of-self-2 g c =
    let wide : (row : Cells) → IsIn c.args.more.items row → length c.self.inside.format ≡ length row =
    subst (λ (names : List (List ℕ)). (row : Cells) → IsIn c.args.more.items row → length names ≡ length row) (sym (ap (λ o. o.names) c.self.view_is)) c.requires.wide in
    output_more _ _ _ _ _ _ _ _ c.in_ok-append.ensures.items wide c.self.invariant

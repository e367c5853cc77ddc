use Rattle.std.proofs.Common.{◌∙◌, sym, ap₂, List}
use Rattle.rdf_terms.specs.Lists.{add_once}
use Rattle.rows_core.specs.Rows.{Cells}
use Rattle.algebra_core.specs.Query.{same_row}
use Rattle.algebra_core.proofs.Loops.{once_push}
use Rattle.algebra_core.proofs.evaluation.row_set.Goals as goal

pub loop-row-preserved : goal.loop-row-preserved
loop-row-preserved c =
    c.in_ok-insert.ensures.keys ∙ ap₂ (λ (rows : List Cells) (row : Cells). add_once same_row rows row) c.loop-row.invariant (c.from_vec.ensures ∙ c.into_vec.ensures)
    ∙ sym (once_push c.loop-row.yielded c.in-Some.row)

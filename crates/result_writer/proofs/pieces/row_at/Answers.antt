use Rattle.std.proofs.Common.{◌+◌, ◌∷◌, sym, ◌∙◌, ap, subst, drop}
use Rattle.std.proofs.lemmas.List.{drop_more}
use Rattle.rdf_terms.specs.Lists.{IsIn}
use Rattle.rows_core.specs.Rows.{Cells}
use Rattle.result_writer.proofs.PieceLemmas.{at_in}
use Rattle.result_writer.proofs.pieces.row_at.Goals as goal

pub returns-clause-member : goal.returns-clause-member
returns-clause-member c = subst (λ (r : Cells). IsIn c.args.rows.now r) (sym c.index-rows-place.is) (at_in c.args.rows.now c.args.place c.index-rows-place.result c.requires)

pub returns-clause-first : goal.returns-clause-first
returns-clause-first c =
    drop_more c.args.rows.now c.args.place c.index-rows-place.result c.requires
    ∙ ap (λ (r : Cells). r ∷ drop (c.args.place + 1) c.args.rows.now) (sym c.index-rows-place.is)

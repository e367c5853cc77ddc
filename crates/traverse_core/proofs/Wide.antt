-- Each solution has a cell for each selected variable.
use Rattle.std.proofs.Common.{List, [], Bool, true, false, sym, ◌∙◌, ap, subst, length, map}
use Rattle.std.specs.Prelude.{slice_get, unwrap_or}
use Rattle.std.proofs.lemmas.List.{length-map}
use Rattle.rdf_terms.specs.declared.triple.Triple.{Triple}
use Rattle.rdf_terms.specs.Lists.{IsIn}
use Rattle.rdf_terms.proofs.Members.{from_map}
use Rattle.rdf_terms.proofs.Adding.{longer_all}
use Rattle.rows_core.specs.Rows.{Cells, projected, cell_or_unbound}
use Rattle.algebra_core.specs.declared.query.Query.{Query}
use Rattle.algebra_core.specs.Order.{row_cmp}
use Rattle.algebra_core.specs.Query.{same_row, distinct_if, body_rows, ordered_if, solutions}
use Rattle.traverse_core.specs.Query.{AreWide}

projected_wide : (q : Query) (rows : List Cells) → AreWide q (map (projected q.select) rows)
projected_wide q rows row h =
    let from = from_map (projected q.select) rows row h in
    length-map q.select (λ number. unwrap_or (slice_get q.names number) [])
    ∙ (sym (length-map q.select (λ v. cell_or_unbound (slice_get from.0 v))) ∙ ap length from.2)

distinct_wide : (q : Query) (b : Bool) (rows : List Cells) → AreWide q rows → AreWide q (distinct_if b rows)
distinct_wide q true rows w = λ row h. let g = longer_all same_row [] rows in w row (g.of row (subst (λ (l : List Cells). IsIn l row) g.is h))
distinct_wide q false rows w = w

pub solutions_wide : (q : Query) (triples : List Triple) → AreWide q (solutions q triples)
solutions_wide q triples =
    let rows = ordered_if q.order (row_cmp q) (body_rows q triples) in
    distinct_wide q q.distinct (map (projected q.select) rows) (projected_wide q rows)

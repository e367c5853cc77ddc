-- The join of two lists of rows, after SPARQL 1.1 Query Language, section 18.5 (Join).
use Rattle.std.specs.Prelude.{ℕ, List, [], ◌∷◌, if◌then◌else◌, slice_get}
use Rattle.std.specs.List.{flat_map}
use Rattle.std.specs.Option.{option_to_list}
use Rattle.rows_core.specs.Rows.{Cells, fits, merged}
use Rattle.symmetric_join.specs.declared.fed.Fed.{Fed}
use Rattle.symmetric_join.specs.declared.fed.Fed.TheVariants.{Left, Right}

-- the merge of two rows, if they are compatible
abbrev pub joined : Cells → Cells → List Cells
joined a b = if fits a b then merged a b ∷ [] else []

-- the merge of each compatible pair, by the left row and then by the right one
abbrev pub join : List Cells → List Cells → List Cells
join lefts rights = flat_map (λ a. flat_map (joined a) rights) lefts

-- the merge of a row that comes to a side with a row of the other side, if they are compatible
abbrev pub met : Fed → Cells → Cells → List Cells
met Left row other = joined row other
met Right row other = joined other row

-- the rows at these places
abbrev pub rows_at : List Cells → List ℕ → List Cells
rows_at rows places = flat_map (λ place. option_to_list (slice_get rows place)) places

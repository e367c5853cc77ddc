-- What a traversal reads off its query.
use Rattle.std.specs.Prelude.{ℕ, ◌≡◌, List, [], map, length, slice_get, unwrap_or}
use Rattle.rdf_terms.specs.Lists.{IsIn}
use Rattle.rows_core.specs.declared.pattern.TriplePattern.{TriplePattern}
use Rattle.rows_core.specs.Rows.{Cells}
use Rattle.algebra_core.specs.declared.query.Query.{Query}
use Rattle.algebra_core.specs.Meaning.{patterns_in}

-- its triple patterns, from left to right
abbrev pub patterns_of : Query → List TriplePattern
patterns_of q = patterns_in q.body

-- the names of its selected variables, in their order; empty where a variable has none
abbrev pub selected_names : Query → List (List ℕ)
selected_names q = map (λ number. unwrap_or (slice_get q.names number) []) q.select

-- each row has a cell for each selected variable
abbrev pub AreWide : Query → List Cells → Type 0
AreWide q rows = (row : Cells) → IsIn rows row → length (selected_names q) ≡ length row

-- The columns of results: each name that is selected, once, in the order in which a row's object has
-- them (docs/FORMATS.md, "Results"). A name that is selected more than once has the last of its cells that is bound.
use Rattle.std.specs.Prelude.{ℕ, ◌+◌, List, [], ◌∷◌, ◌++◌, Option, Some, None, slice_get}
use Rattle.std.specs.Cmp.Lexicographic.{slice_cmp}
use Rattle.std.specs.Ordering.{nat_cmp, match_ordering}
use Rattle.json.specs.Token.{Token, key}
use Rattle.json.specs.Tree.{json_tokens}
use Rattle.serde_json.specs.Data.{Members, no_members, member}
use Rattle.serde_json.specs.Written.{outline}
use Rattle.rdf_terms.specs.declared.term.Term.{Term}
use Rattle.json_results.specs.Results.{term_data}

-- a name, and the places at which it is selected
pub record Column : Type 0 where
  pub name : List ℕ
  pub places : List ℕ

-- the column of a name that is selected at one place
abbrev pub single : List ℕ → ℕ → Column
single name place = record { name = name; places = place ∷ [] }

-- a column with one more place
abbrev pub grown : Column → ℕ → Column
grown column place = record { name = column.name; places = column.places ++ place ∷ [] }

-- the columns with one more place of a name; names stand in ascending order
abbrev pub with_place : List ℕ → ℕ → List Column → List Column
with_place name place [] = single name place ∷ []
with_place name place (column ∷ columns) =
    match_ordering (slice_cmp nat_cmp name column.name)
    (single name place ∷ column ∷ columns)
    (grown column place ∷ columns)
    (column ∷ with_place name place columns)

-- the columns with those of names that are selected from a place on
unfoldable pub with_names : List (List ℕ) → ℕ → List Column → List Column
with_names [] place columns = columns
with_names (name ∷ names) place columns = with_names names (place + 1) (with_place name place columns)

-- the columns of the names that are selected
abbrev pub columns_of : List (List ℕ) → List Column
columns_of names = with_names names 0 []

-- the later of two cells where it is bound, else the earlier
abbrev pub later : Option Term → Option Term → Option Term
later earlier (Some term) = Some term
later earlier None = earlier

-- the cell at a place, which is unbound where the row has none there
abbrev pub cell_at : Option (Option Term) → Option Term
cell_at (Some cell) = cell
cell_at None = None

-- the last bound cell of some places, or else this one
abbrev pub last_bound : Option Term → List ℕ → List (Option Term) → Option Term
last_bound found [] cells = found
last_bound found (place ∷ places) cells = last_bound (later found (cell_at (slice_get cells place))) places cells

-- a row's cell in a column
abbrev pub cell_of : Column → List (Option Term) → Option Term
cell_of column cells = last_bound None column.places cells

abbrev pub first_member : List ℕ → Option Term → Members → Members
first_member name None members = members
first_member name (Some term) members = member name (term_data term) members

-- the members of a row: one for each column whose cell is bound
abbrev pub columns_members : List Column → List (Option Term) → Members
columns_members [] cells = no_members
columns_members (column ∷ columns) cells = first_member column.name (cell_of column cells) (columns_members columns cells)

-- the tokens of JSON (RFC 8259, section 2) for a cell: none where it is unbound
abbrev pub cell_tokens : List ℕ → Option Term → List Token
cell_tokens name None = []
cell_tokens name (Some term) = key name ∷ json_tokens (outline (term_data term))

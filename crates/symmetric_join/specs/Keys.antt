-- Rows by the terms that they bind to key variables.
use Rattle.std.specs.Prelude.{ℕ, ◌≡◌, ◌+◌, ◌≤◌, Bool, List, [], ◌∷◌, ◌++◌, Option, Some, None, if◌then◌else◌, is_some, nat_lt, length, take, slice_get}
use Rattle.std.specs.Option.{option_eq, unwrap_or}
use Rattle.std.specs.Cmp.Lexicographic.{pointwise}
use Rattle.indexmap.specs.IndexMap.{IndexMap, get}
use Rattle.rdf_terms.specs.declared.term.Term.{Term}
use Rattle.rdf_terms.specs.Same.{same_term}
use Rattle.rows_core.specs.Rows.{Cells, cell_or_unbound}

-- a row's terms at the key variables; None where it leaves one unbound
abbrev pub Key : Type 0
Key = Option (List Term)

abbrev pub same_key : Key → Key → Bool
same_key = option_eq (pointwise same_term)

abbrev pub with_term : List Term → Option Term → Key
with_term terms None = None
with_term terms (Some x) = Some (terms ++ x ∷ [])

abbrev pub before_terms : Option Term → Key → Key
before_terms None key = None
before_terms (Some x) None = None
before_terms (Some x) (Some terms) = Some (x ∷ terms)

-- the terms that the row binds to the variables, in their order
abbrev pub key_of : List ℕ → Cells → Key
key_of [] row = Some []
key_of (v ∷ vs) row = before_terms (cell_or_unbound (slice_get row v)) (key_of vs row)

-- the row binds the variable
abbrev pub is_bound : Cells → ℕ → Bool
is_bound row v = is_some (cell_or_unbound (slice_get row v))

-- the row has the key
abbrev pub has_key : List ℕ → Key → Cells → Bool
has_key vars key row = same_key (key_of vars row) key

-- the places, counted from a number on, of the items that pass the test, ascending
abbrev pub places_from : {X : Type 0} → ℕ → (X → Bool) → List X → List ℕ
places_from n test [] = []
places_from n test (x ∷ xs) = if test x then n ∷ places_from (n + 1) test xs else places_from (n + 1) test xs

abbrev pub places : {X : Type 0} → (X → Bool) → List X → List ℕ
places test xs = places_from 0 test xs

-- the places that the table lists under a key
abbrev pub places_at : {S : Type 0} → IndexMap Key (List ℕ) S → Key → List ℕ
places_at table key = unwrap_or (get same_key table key) []

-- the table lists the first so many rows by their keys
pub record Lists {S : Type 0} (vars : List ℕ) (rows : List Cells) (listed : ℕ) (table : IndexMap Key (List ℕ) S) : Type 0 where
  pub within : listed ≤ length rows
  pub lists : (key : Key) → places_at table key ≡ places (has_key vars key) (take listed rows)

-- ---- two ascending lists of places, as one

abbrev pub before_place : ℕ → (List ℕ → List ℕ) → List ℕ → List ℕ
before_place x rest [] = x ∷ rest []
before_place x rest (y ∷ ys) = if nat_lt x y then x ∷ rest (y ∷ ys) else y ∷ before_place x rest ys

abbrev pub merged_places : List ℕ → List ℕ → List ℕ
merged_places [] ys = ys
merged_places (x ∷ xs) ys = before_place x (merged_places xs) ys

-- rows with their key variables, of which the first so many are listed in a table
pub record Keyed : Type 0 where
  pub vars : List ℕ
  pub rows : List Cells
  pub listed : ℕ

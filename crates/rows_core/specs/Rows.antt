-- Rows of solutions, after SPARQL 1.1 Query Language, sections 18.1.8 (solution mappings) and 18.3 (compatible, merge).
use Rattle.std.specs.Prelude.{ℕ, zero, suc, ◌≡◌, ◌⊎◌, ◌↔◌, Bool, true, false, ◌&&◌, List, [], ◌∷◌, Option, Some, None, map, length, slice_get}
use Rattle.rdf_terms.specs.declared.term.Term.{Term}
use Rattle.rdf_terms.specs.Same.{same_term}

-- a row: one optional term for each variable, in the order of the variables' numbers
abbrev pub Cells : Type 0
Cells = List (Option Term)

-- the row binds the variable to the term
abbrev pub Binds : Cells → ℕ → Term → Type 0
Binds row v x = slice_get row v ≡ Some (Some x)

-- the rows have one width, and agree on each variable that both bind
abbrev pub Compatible : Cells → Cells → Type 0
Compatible a b = (length a ≡ length b) × ((v : ℕ) (x y : Term) → Binds a v x → Binds b v y → x ≡ y)

-- the row has the width of both, and the bindings of both alone
pub record Merges (a b row : Cells) : Type 0 where
  pub width : length row ≡ length a
  pub bindings : (v : ℕ) (x : Term) → Binds row v x ↔ (Binds a v x ⊎ Binds b v x)

-- the row with no variable bound
abbrev pub unbound : ℕ → Cells
unbound zero = []
unbound (suc n) = None ∷ unbound n

abbrev pub cell_or_unbound : Option (Option Term) → Option Term
cell_or_unbound (Some c) = c
cell_or_unbound None = None

-- the row's cells at the selected variables, in the order of the selection (section 18.5, Project)
abbrev pub projected : List ℕ → Cells → Cells
projected select row = map (λ v. cell_or_unbound (slice_get row v)) select

-- ---- the tests and the merge, cell by cell

-- two cells agree where both are bound
abbrev pub agrees : Option Term → Option Term → Bool
agrees (Some x) (Some y) = same_term x y
agrees (Some x) None = true
agrees None y = true

-- the rows have one width, and their cells agree
abbrev pub fits : Cells → Cells → Bool
fits [] [] = true
fits [] (y ∷ ys) = false
fits (x ∷ xs) [] = false
fits (x ∷ xs) (y ∷ ys) = agrees x y && fits xs ys

abbrev pub first_bound : Option Term → Option Term → Option Term
first_bound (Some x) y = Some x
first_bound None y = y

-- in each place the first cell where it is bound, else the second
abbrev pub merged : Cells → Cells → Cells
merged [] ys = ys
merged (x ∷ xs) [] = x ∷ xs
merged (x ∷ xs) (y ∷ ys) = first_bound x y ∷ merged xs ys

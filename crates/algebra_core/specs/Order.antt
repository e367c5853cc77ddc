-- The order of solutions (SPARQL 1.1 Query Language, section 15.1; docs/FORMATS.md, "Order of terms").
use Rattle.std.specs.Prelude.{ℕ, zero, suc, Bool, List, [], ◌∷◌, ◌++◌, Option, length, get_or, if◌then◌else◌}
use Rattle.std.specs.declared.cmp.Ordering.{Ordering}
use Rattle.std.specs.declared.cmp.Ordering.TheVariants.{Equal}
use Rattle.std.specs.Ordering.{nat_cmp, on, then_cmp, flip_args, is_gt}
use Rattle.std.specs.Cmp.Lexicographic.{slice_cmp}
use Rattle.rdf_terms.specs.declared.term.Term.{Term}
use Rattle.rdf_terms.specs.Order.{text_cmp}
use Rattle.rows_core.specs.Rows.{Cells}
use Rattle.expr_eval.specs.Value.{value_of}
use Rattle.expr_eval.specs.Order.{term_order}
use Rattle.algebra_core.specs.declared.query.Key.{Key}
use Rattle.algebra_core.specs.declared.query.Query.{Query}
use Rattle.algebra_core.specs.Meaning.{bindings_of}

-- the list with the element before the first that it is not greater than
abbrev pub inserted : {X : Type 0} → (X → X → Ordering) → X → List X → List X
inserted cmp x [] = x ∷ []
inserted cmp x (y ∷ ys) = if is_gt (cmp x y) then y ∷ inserted cmp x ys else x ∷ y ∷ ys

-- the elements in ascending order
abbrev pub in_order : {X : Type 0} → (X → X → Ordering) → List X → List X
in_order cmp [] = []
in_order cmp (x ∷ xs) = inserted cmp x (in_order cmp xs)

-- the order, or its reverse
abbrev pub directed : {X : Type 0} → Bool → (X → X → Ordering) → X → X → Ordering
directed descending cmp = if descending then flip_args cmp else cmp

-- the value of the key's expression on the row; a type error is as unbound
abbrev pub key_value : Key → Cells → Option Term
key_value k row = value_of k.expr (bindings_of row)

-- rows by one key, in the key's own direction
abbrev pub key_cmp : Key → Cells → Cells → Ordering
key_cmp k = on (key_value k) (directed k.descending term_order)

-- rows by the keys in turn
abbrev pub keys_cmp : List Key → Cells → Cells → Ordering
keys_cmp [] a b = Equal
keys_cmp (k ∷ ks) a b = then_cmp (key_cmp k) (keys_cmp ks) a b

-- rows by the bindings of the variables in turn
abbrev pub bindings_cmp : List ℕ → Cells → Cells → Ordering
bindings_cmp [] a b = Equal
bindings_cmp (v ∷ vs) a b = then_cmp (on (λ row. bindings_of row v) term_order) (bindings_cmp vs) a b

-- the numbers below a number
abbrev pub numbers : ℕ → List ℕ
numbers zero = []
numbers (suc n) = numbers n ++ n ∷ []

-- variables by the bytes of their names, and by their numbers where names are equal
abbrev pub names_cmp : List (List ℕ) → ℕ → ℕ → Ordering
names_cmp names = then_cmp (on (λ v. get_or names v []) text_cmp) nat_cmp

-- the variables that have names, in ascending order of the names' bytes
abbrev pub by_name : List (List ℕ) → List ℕ
by_name names = in_order (names_cmp names) (numbers (length names))

-- rows by the keys, then by the bindings of all names
abbrev pub solution_cmp : Query → Cells → Cells → Ordering
solution_cmp q = then_cmp (keys_cmp q.order) (bindings_cmp (by_name q.names))

-- the same for rows of any kind, at last by all cells, so that only equal rows tie; on a query's own rows the last comparison decides nothing (`names_break_ties`)
abbrev pub row_cmp : Query → Cells → Cells → Ordering
row_cmp q = then_cmp (keys_cmp q.order) (then_cmp (bindings_cmp (by_name q.names)) (slice_cmp term_order))

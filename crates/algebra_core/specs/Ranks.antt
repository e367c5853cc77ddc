-- Rows beside the values of their keys, which a sort compares in place of the rows alone (SPARQL 1.1 Query Language, section 15.1).
use Rattle.std.specs.Prelude.{ℕ, List, [], ◌∷◌, Option, None, map}
use Rattle.std.specs.declared.cmp.Ordering.{Ordering}
use Rattle.std.specs.declared.cmp.Ordering.TheVariants.{Equal}
use Rattle.std.specs.Ordering.{on, then_cmp}
use Rattle.std.specs.Cmp.Lexicographic.{slice_cmp}
use Rattle.rdf_terms.specs.declared.term.Term.{Term}
use Rattle.rows_core.specs.Rows.{Cells}
use Rattle.expr_eval.specs.Order.{term_order}
use Rattle.algebra_core.specs.declared.query.Key.{Key}
use Rattle.algebra_core.specs.declared.ordering.Ranked.{Ranked}
use Rattle.algebra_core.specs.Order.{directed, key_value, bindings_cmp}

-- the values of the keys on a row
abbrev pub key_values : List Key → Cells → List (Option Term)
key_values keys row = map (λ k. key_value k row) keys

-- the row beside them
abbrev pub ranked_of : List Key → Cells → Ranked
ranked_of keys row = record { keys = key_values keys row; row = row }

abbrev pub row_in : Ranked → Cells
row_in r = r.row

abbrev pub keys_in : Ranked → List (Option Term)
keys_in r = r.keys

abbrev pub first_of : List (Option Term) → Option Term
first_of [] = None
first_of (x ∷ xs) = x

abbrev pub rest_of : List (Option Term) → List (Option Term)
rest_of [] = []
rest_of (x ∷ xs) = xs

-- values by the keys' directions in turn
abbrev pub values_cmp : List Key → List (Option Term) → List (Option Term) → Ordering
values_cmp [] xs ys = Equal
values_cmp (k ∷ ks) xs ys = then_cmp (on first_of (directed k.descending term_order)) (on rest_of (values_cmp ks)) xs ys

-- rows by the bindings of the variables, at last by all cells
abbrev pub rows_cmp : List ℕ → Cells → Cells → Ordering
rows_cmp places = then_cmp (bindings_cmp places) (slice_cmp term_order)

-- by the values of the keys, then by the rows
abbrev pub ranked_cmp : List Key → List ℕ → Ranked → Ranked → Ordering
ranked_cmp keys places = then_cmp (on keys_in (values_cmp keys)) (on row_in (rows_cmp places))

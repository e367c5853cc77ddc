-- The orders of rows, of their key values and of names are total, and only equal ones tie.
use Rattle.std.proofs.Common.{◌≡◌, ◌∙◌, ℕ, Bool, true, false, List, [], ◌∷◌, Option, Ordering, Less, Equal, Greater, refl, sym}
use Rattle.std.specs.Ordering.{nat_cmp, ordering_then}
use Rattle.std.specs.Cmp.{IsTotalOrder}
use Rattle.std.specs.Cmp.Lexicographic.{slice_cmp}
use Rattle.std.proofs.lemmas.Cmp.{on_total, then_total, back_total, nat_cmp_total, lists_total}
use Rattle.std.specs.FinMap.{nat_cmp-IsAntisymmetric, slice_cmp-IsAntisymmetric}
use Rattle.rows_core.specs.Rows.{Cells}
use Rattle.expr_eval.specs.Order.{term_order}
use Rattle.expr_eval.proofs.OrderLaws.{term_order-total, term_order-ties}
use Rattle.algebra_core.specs.declared.query.Key.{Key}
use Rattle.algebra_core.specs.declared.query.Query.{Query}
use Rattle.algebra_core.specs.Meaning.{bindings_of}
use Rattle.algebra_core.specs.Order.{directed, key_value, keys_cmp, bindings_cmp, names_cmp, by_name, row_cmp}
use Rattle.algebra_core.specs.Ranks.{first_of, rest_of, keys_in, row_in, values_cmp, ranked_cmp}

all_tie : {X : Type 0} → IsTotalOrder (λ (a b : X). Equal)
all_tie = record { antisymm = λ x y. refl; trans = λ x y z e f. e; congr = λ x y z e. refl }

directed_total : {X : Type 0} (d : Bool) (cmp : X → X → Ordering) → IsTotalOrder cmp → IsTotalOrder (directed d cmp)
directed_total true cmp t = back_total t
directed_total false cmp t = t

keys_total : (ks : List Key) → IsTotalOrder (keys_cmp ks)
keys_total [] = all_tie
keys_total (k ∷ ks) = then_total (on_total (key_value k) (directed_total k.descending term_order term_order-total)) (keys_total ks)

bindings_total : (vs : List ℕ) → IsTotalOrder (bindings_cmp vs)
bindings_total [] = all_tie
bindings_total (v ∷ vs) = then_total (on_total (λ (row : Cells). bindings_of row v) term_order-total) (bindings_total vs)

pub cells_total : IsTotalOrder (slice_cmp term_order)
cells_total = lists_total term_order-total

values_total : (ks : List Key) → IsTotalOrder (values_cmp ks)
values_total [] = all_tie
values_total (k ∷ ks) = then_total (on_total first_of (directed_total k.descending term_order term_order-total)) (on_total rest_of (values_total ks))

pub row_total : (q : Query) → IsTotalOrder (row_cmp q)
row_total q = then_total (keys_total q.order) (then_total (bindings_total (by_name q.names)) cells_total)

pub ranked_total : (keys : List Key) (places : List ℕ) → IsTotalOrder (ranked_cmp keys places)
ranked_total keys places = then_total (on_total keys_in (values_total keys)) (on_total row_in (then_total (bindings_total places) cells_total))

pub names_total : (names : List (List ℕ)) → IsTotalOrder (names_cmp names)
names_total names = then_total (on_total (λ (v : ℕ). Rattle.std.proofs.Common.get_or names v []) (lists_total nat_cmp_total)) nat_cmp_total

-- ---- ties

pub second_ties : (o p : Ordering) → ordering_then o p ≡ Equal → p ≡ Equal
second_ties Less p e = absurd (cc)
second_ties Equal p e = e
second_ties Greater p e = absurd (cc)

pub row_ties : (q : Query) (a b : Cells) → row_cmp q a b ≡ Equal → a ≡ b
row_ties q a b e =
    slice_cmp-IsAntisymmetric term_order-ties a b (second_ties (bindings_cmp (by_name q.names) a b) _ (second_ties (keys_cmp q.order a b) _ e))

pub names_ties : (names : List (List ℕ)) (v w : ℕ) → names_cmp names v w ≡ Equal → v ≡ w
names_ties names v w e = nat_cmp-IsAntisymmetric v w (second_ties _ (nat_cmp v w) e)

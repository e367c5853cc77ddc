-- A sort of rows beside their key values puts the rows in order.
use Rattle.std.proofs.Common.{◌≡◌, ◌∙◌, ℕ, ◌+◌, List, [], ◌∷◌, Ordering, refl, sym, ap, ap₂, subst, arith, map, length, get_or, is_lt, IsPermutation, IsSorted}
use Rattle.std.specs.Ordering.{then_cmp, ordering_then}
use Rattle.std.specs.List.{AllByRecursion}
use Rattle.std.specs.Cmp.Lexicographic.{slice_cmp}
use Rattle.std.proofs.lemmas.List.{length-map, get_or-map}
use Rattle.std.proofs.lemmas.List.Elements.{recursion_from_All, All-from_recursion}
use Rattle.std.proofs.lemmas.List.Sorted.{All-permutation}
use Rattle.rows_core.specs.Rows.{Cells}
use Rattle.expr_eval.specs.Order.{term_order}
use Rattle.algebra_core.specs.declared.query.Key.{Key}
use Rattle.algebra_core.specs.declared.query.Query.{Query}
use Rattle.algebra_core.specs.declared.ordering.Ranked.{Ranked}
use Rattle.algebra_core.specs.Order.{directed, key_value, keys_cmp, bindings_cmp, numbers, names_cmp, by_name, in_order, row_cmp}
use Rattle.algebra_core.specs.Ranks.{key_values, ranked_of, row_in, values_cmp, ranked_cmp}
use Rattle.algebra_core.proofs.Bags.{same_bag, then_bag, map_bag}
use Rattle.algebra_core.proofs.Ordered.{sorted_in_order}
use Rattle.algebra_core.proofs.Totals.{row_total, row_ties, names_total, names_ties}

values_are_keys : (ks : List Key) (a b : Cells) → values_cmp ks (key_values ks a) (key_values ks b) ≡ keys_cmp ks a b
values_are_keys [] a b = refl
values_are_keys (k ∷ ks) a b = ap (λ (o : Ordering). ordering_then (directed k.descending term_order (key_value k a) (key_value k b)) o) (values_are_keys ks a b)

abbrev rows_cmp : List Key → List ℕ → Cells → Cells → Ordering
rows_cmp keys places = then_cmp (keys_cmp keys) (then_cmp (bindings_cmp places) (slice_cmp term_order))

ranked_is_row : (keys : List Key) (places : List ℕ) (a b : Cells) → ranked_cmp keys places (ranked_of keys a) (ranked_of keys b) ≡ rows_cmp keys places a b
ranked_is_row keys places a b = ap (λ (o : Ordering). ordering_then o (then_cmp (bindings_cmp places) (slice_cmp term_order) a b)) (values_are_keys keys a b)

-- the row is beside its own values
abbrev IsRanked : List Key → Ranked → Type 0
IsRanked keys r = ranked_of keys r.row ≡ r

all_ranked : (keys : List Key) (rows : List Cells) → AllByRecursion (IsRanked keys) (map (ranked_of keys) rows)
all_ranked keys [] = tt
all_ranked keys (row ∷ rows) = (refl, all_ranked keys rows)

ranked_again : (keys : List Key) (rs : List Ranked) → AllByRecursion (IsRanked keys) rs → map (ranked_of keys) (map row_in rs) ≡ rs
ranked_again keys [] h = refl
ranked_again keys (r ∷ rs) h = ap₂ (λ (x : Ranked) (xs : List Ranked). x ∷ xs) h.0 (ranked_again keys rs h.1)

rows_again : (keys : List Key) (rows : List Cells) → map row_in (map (ranked_of keys) rows) ≡ rows
rows_again keys [] = refl
rows_again keys (row ∷ rows) = ap (λ (xs : List Cells). row ∷ xs) (rows_again keys rows)

rows_sorted : (keys : List Key) (places : List ℕ) (rows : List Cells) → IsSorted (ranked_cmp keys places) (map (ranked_of keys) rows) → IsSorted (rows_cmp keys places) rows
rows_sorted keys places rows s = λ k d p q.
    let f = ranked_of keys in
    let long : length (map f rows) ≡ length rows = length-map rows f in
    let h = s k (f d) p (omega (arith, long)) in
    let a = get_or-map f rows (k + 1) d (f d) (omega arith) in
    let b = get_or-map f rows k d (f d) (omega arith) in
    ap is_lt (sym (ranked_is_row keys places (get_or rows (k + 1) d) (get_or rows k d)))
    ∙ (ap₂ (λ (x y : Ranked). is_lt (ranked_cmp keys places x y)) (sym a) (sym b) ∙ h)

pub rows_in_order : (q : Query) (places : List ℕ) (rows : List Cells) (rs : List Ranked) → places ≡ by_name q.names → IsPermutation (map (ranked_of q.order) rows) rs
    → IsSorted (ranked_cmp q.order places) rs → map row_in rs ≡ in_order (row_cmp q) rows
rows_in_order q places rows rs e p s =
    let all = recursion_from_All (IsRanked q.order) rs (All-permutation (IsRanked q.order) (map (ranked_of q.order) rows) rs p (All-from_recursion (IsRanked q.order) (map (ranked_of q.order) rows) (all_ranked q.order rows))) in
    let again : rs ≡ map (ranked_of q.order) (map row_in rs) = sym (ranked_again q.order rs all) in
    let by_row : IsSorted (rows_cmp q.order places) (map row_in rs) = rows_sorted q.order places (map row_in rs) (subst (λ (l : List Ranked). IsSorted (ranked_cmp q.order places) l) again s) in
    let sorted : IsSorted (row_cmp q) (map row_in rs) = subst (λ (vs : List ℕ). IsSorted (rows_cmp q.order vs) (map row_in rs)) e by_row in
    let bag : IsPermutation rows (map row_in rs) = then_bag (same_bag (sym (rows_again q.order rows))) (map_bag row_in (map (ranked_of q.order) rows) rs p) in
    sorted_in_order (row_cmp q) (row_total q) (row_ties q) rows (map row_in rs) bag sorted

pub places_in_order : (names : List (List ℕ)) (places : List ℕ) → IsPermutation (numbers (length names)) places → IsSorted (names_cmp names) places → places ≡ by_name names
places_in_order names places p s = sorted_in_order (names_cmp names) (names_total names) (names_ties names) (numbers (length names)) places p s

-- the same, through what each step of the code gives
pub rows_ranked : (q : Query) (names : List (List ℕ)) (own keys : List Key) (places lent : List ℕ) (rows : List Cells) (ranked rs : List Ranked) (out : List Cells)
    → names ≡ q.names → places ≡ by_name names → lent ≡ places → own ≡ q.order → ranked ≡ map (ranked_of own) rows → IsPermutation ranked rs
    → keys ≡ q.order → IsSorted (ranked_cmp keys lent) rs → out ≡ map row_in rs → out ≡ in_order (row_cmp q) rows
rows_ranked q names own keys places lent rows ranked rs out a b c d e p f s g =
    g ∙ rows_in_order q lent rows rs (c ∙ (b ∙ ap by_name a))
    (subst (λ (l : List Ranked). IsPermutation l rs) (e ∙ ap (λ (ks : List Key). map (ranked_of ks) rows) d) p)
    (subst (λ (ks : List Key). IsSorted (ranked_cmp ks lent) rs) f s)

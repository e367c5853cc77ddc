-- Each row of an expression has the width and binds no blank node, so that names decide between rows.
use Rattle.std.proofs.Common.{ℕ, zero, suc, ◌≡◌, ◌⊎◌, ◌<◌, Bool, true, false, cond, List, [], ◌∷◌, map, filter, flat_map, length, Option, None, Ordering, Less, Equal, Greater, refl, sym, ◌∙◌, ap, ap₂, subst, inl, inr, arith}
use Rattle.std.specs.Prelude.{if◌then◌else◌}
use Rattle.std.specs.Ordering.{ordering_then}
use Rattle.std.specs.Cmp.Lexicographic.{slice_cmp}
use Rattle.std.proofs.lemmas.Cmp.{tied_itself}
use Rattle.rdf_terms.specs.declared.term.Term.{Term}
use Rattle.rdf_terms.specs.declared.triple.Triple.{Triple}
use Rattle.rdf_terms.specs.Lists.{IsIn}
use Rattle.rdf_terms.proofs.Members.{in_left, in_right, in_either, from_map}
use Rattle.rows_core.specs.declared.pattern.TriplePattern.{TriplePattern}
use Rattle.rows_core.specs.Rows.{Cells, unbound, fits, merged}
use Rattle.rows_core.proofs.Joining.{merged_width}
use Rattle.expr_eval.specs.declared.expr.Expr.{Expr}
use Rattle.expr_eval.specs.Order.{term_order}
use Rattle.expr_eval.proofs.OrderLaws.{term_order-ties}
use Rattle.algebra_core.specs.declared.algebra.Algebra.{Algebra, Bgp, Join, Union, Filter, LeftJoin}
use Rattle.algebra_core.specs.declared.query.Query.{Query}
use Rattle.algebra_core.specs.Graphs.{graph, all_extended}
use Rattle.algebra_core.specs.Meaning.{joined, join, restricted, holds, or_alone, left_joined, bindings_of, eval}
use Rattle.algebra_core.specs.Order.{keys_cmp, bindings_cmp, numbers, names_cmp, by_name, solution_cmp, row_cmp}
use Rattle.algebra_core.specs.Query.{body_rows}
use Rattle.algebra_core.specs.Ranks.{first_of, rest_of}
use Rattle.algebra_core.specs.Laws.{IsShaped, KeepsShape}
use Rattle.algebra_core.proofs.Flat.{from_flat}
use Rattle.algebra_core.proofs.Members.{bag_within}
use Rattle.algebra_core.proofs.Ordered.{in_order_bag}
use Rattle.algebra_core.proofs.Totals.{cells_total, second_ties, names_total, names_ties}
use Rattle.algebra_core.proofs.Evals.{eval-Bgp, eval-Join, eval-Union, eval-Filter, eval-LeftJoin}
use Rattle.algebra_core.proofs.Instances.{found_instance}

-- ---- rows without blank nodes

restricted_width : (n : ℕ) (cs : Cells) → length (restricted n cs) ≡ length cs
restricted_width n [] = refl
restricted_width zero (c ∷ cs) = ap suc (restricted_width zero cs)
restricted_width (suc n) (c ∷ cs) = ap suc (restricted_width n cs)

restricted_twice : (n : ℕ) (cs : Cells) → restricted n (restricted n cs) ≡ restricted n cs
restricted_twice n [] = refl
restricted_twice zero (c ∷ cs) = ap (λ (l : Cells). None ∷ l) (restricted_twice zero cs)
restricted_twice (suc n) (c ∷ cs) = ap (λ (l : Cells). c ∷ l) (restricted_twice n cs)

restricted_merged : (n : ℕ) (a b : Cells) → restricted n (merged a b) ≡ merged (restricted n a) (restricted n b)
restricted_merged n [] b = refl
restricted_merged zero (x ∷ xs) [] = refl
restricted_merged (suc n) (x ∷ xs) [] = refl
restricted_merged zero (x ∷ xs) (y ∷ ys) = ap (λ (l : Cells). None ∷ l) (restricted_merged zero xs ys)
restricted_merged (suc n) (x ∷ xs) (y ∷ ys) = ap (λ (l : Cells). Rattle.rows_core.specs.Rows.first_bound x y ∷ l) (restricted_merged n xs ys)

shaped_merged : (w n : ℕ) (a b : Cells) → fits a b ≡ true → IsShaped w n a → IsShaped w n b → IsShaped w n (merged a b)
shaped_merged w n a b h s t = (merged_width a b h ∙ s.0, restricted_merged n a b ∙ ap₂ (λ (x y : Cells). merged x y) s.1 t.1)

-- ---- members

in_joined : (a b r : Cells) → IsIn (joined a b) r → (fits a b ≡ true) × (merged a b ≡ r)
in_joined a b r = elim (fits a b) as (λ t. IsIn (if t then merged a b ∷ [] else []) r → (t ≡ true) × (merged a b ≡ r)) [
  | true ↦ λ h. elim h [ inl e ↦ (refl, e) | inr k ↦ absurd k ]
  | false ↦ λ h. absurd h
]

in_filter : (p : Cells → Bool) (xs : List Cells) (r : Cells) → IsIn (filter p xs) r → IsIn xs r
in_filter p [] r h = h
in_filter p (x ∷ xs) r h = elim (p x) as (λ t. IsIn (cond t (x ∷ filter p xs) (filter p xs)) r → IsIn (x ∷ xs) r) [
  | true ↦ λ k. elim k [ inl e ↦ inl e | inr j ↦ inr (in_filter p xs r j) ]
  | false ↦ λ k. inr (in_filter p xs r k)
] h

in_alone : (a : Cells) (xs : List Cells) (r : Cells) → IsIn (or_alone a xs) r → (a ≡ r) ⊎ IsIn xs r
in_alone a [] r (inl e) = inl e
in_alone a [] r (inr h) = absurd h
in_alone a (x ∷ xs) r h = inr h

abbrev AreShaped : ℕ → ℕ → List Cells → Type 0
AreShaped w n xs = (r : Cells) → IsIn xs r → IsShaped w n r

one_shaped : (w n : ℕ) (a : Cells) (ys : List Cells) → IsShaped w n a → AreShaped w n ys → (r : Cells) → IsIn (flat_map (joined a) ys) r → IsShaped w n r
one_shaped w n a ys s t r h =
    let m = from_flat (joined a) ys r h in
    let j = in_joined a m.0 r m.2 in
    subst (λ (c : Cells). IsShaped w n c) j.1 (shaped_merged w n a m.0 j.0 s (t m.0 m.1))

join_shaped : (w n : ℕ) (xs ys : List Cells) → AreShaped w n xs → AreShaped w n ys → (r : Cells) → IsIn (join xs ys) r → IsShaped w n r
join_shaped w n xs ys s t r h = let m = from_flat (λ a. flat_map (joined a) ys) xs r h in one_shaped w n m.0 ys (s m.0 m.1) t r m.2

left_shaped : (w n : ℕ) (p : Cells → Bool) (xs ys : List Cells) → AreShaped w n xs → AreShaped w n ys → (r : Cells) → IsIn (left_joined p xs ys) r → IsShaped w n r
left_shaped w n p xs ys s t r h =
    let m = from_flat (λ a. or_alone a (filter p (flat_map (joined a) ys))) xs r h in
    elim (in_alone m.0 (filter p (flat_map (joined m.0) ys)) r m.2) [
      | inl e ↦ subst (λ (c : Cells). IsShaped w n c) e (s m.0 m.1)
      | inr k ↦ one_shaped w n m.0 ys (s m.0 m.1) t r (in_filter p (flat_map (joined m.0) ys) r k)
    ]

pattern_shaped : (w n : ℕ) (ps : List TriplePattern) (g : List Triple) (r : Cells) → IsIn (map (restricted n) (all_extended ps g (unbound w ∷ []))) r → IsShaped w n r
pattern_shaped w n ps g r h =
    let m = from_map (restricted n) (all_extended ps g (unbound w ∷ [])) r h in
    subst (λ (c : Cells). IsShaped w n c) m.2 (restricted_width n m.0 ∙ (found_instance ps w g m.0 m.1).width, restricted_twice n m.0)

-- ---- expressions

at : (xs ys : List Cells) (r : Cells) → xs ≡ ys → IsIn xs r → IsIn ys r
at xs ys r e h = subst (λ (l : List Cells). IsIn l r) e h

pub shape_Bgp : (ps : List TriplePattern) → KeepsShape (Bgp ps)
shape_Bgp ps = record { shapes = λ w n g r h. pattern_shaped w n ps g r (at _ _ r (eval-Bgp ps w n g) h) }

pub shape_Join : (a b : Algebra) → KeepsShape a → KeepsShape b → KeepsShape (Join a b)
shape_Join a b p q = record { shapes = λ w n g r h. join_shaped w n _ _ (p.shapes w n g) (q.shapes w n g) r (at _ _ r (eval-Join a b w n g) h) }

pub shape_Union : (a b : Algebra) → KeepsShape a → KeepsShape b → KeepsShape (Union a b)
shape_Union a b p q = record {
  shapes = λ w n g r h. elim (in_either (eval a w n g) (eval b w n g) r (at _ _ r (eval-Union a b w n g) h)) [
    | inl i ↦ p.shapes w n g r i
    | inr j ↦ q.shapes w n g r j
  ];
}

pub shape_Filter : (e : Expr) (a : Algebra) → KeepsShape a → KeepsShape (Filter e a)
shape_Filter e a p = record { shapes = λ w n g r h. p.shapes w n g r (in_filter (holds e) (eval a w n g) r (at _ _ r (eval-Filter e a w n g) h)) }

pub shape_LeftJoin : (a b : Algebra) (e : Expr) → KeepsShape a → KeepsShape b → KeepsShape (LeftJoin a b e)
shape_LeftJoin a b e p q = record { shapes = λ w n g r h. left_shaped w n (holds e) _ _ (p.shapes w n g) (q.shapes w n g) r (at _ _ r (eval-LeftJoin a b e w n g) h) }

pub ruleset shapes = (shape_Bgp, shape_Join, shape_Union, shape_Filter, shape_LeftJoin)

-- ---- names decide

first_ties : (o p : Ordering) → ordering_then o p ≡ Equal → o ≡ Equal
first_ties Less p e = e
first_ties Equal p e = refl
first_ties Greater p e = e

same_bindings : (vs : List ℕ) (a b : Cells) → bindings_cmp vs a b ≡ Equal → (v : ℕ) → IsIn vs v → bindings_of a v ≡ bindings_of b v
same_bindings [] a b e v h = absurd h
same_bindings (u ∷ us) a b e v (inl i) = subst (λ (z : ℕ). bindings_of a z ≡ bindings_of b z) i (term_order-ties _ _ (first_ties (term_order (bindings_of a u) (bindings_of b u)) (bindings_cmp us a b) e))
same_bindings (u ∷ us) a b e v (inr h) = same_bindings us a b (second_ties (term_order (bindings_of a u) (bindings_of b u)) (bindings_cmp us a b) e) v h

below_or_last : (v n : ℕ) → v < suc n → (v < n) ⊎ (n ≡ v)
below_or_last v n h = grind arith

in_numbers : (n v : ℕ) → v < n → IsIn (numbers n) v
in_numbers zero v h = absurd (omega arith)
in_numbers (suc n) v h = elim (below_or_last v n h) [ inl l ↦ in_left (numbers n) (n ∷ []) v (in_numbers n v l) | inr e ↦ in_right (numbers n) (n ∷ []) v (inl e) ]

named : (names : List (List ℕ)) (v : ℕ) → v < length names → IsIn (by_name names) v
named names v h = bag_within (numbers (length names)) (by_name names) (in_order_bag (names_cmp names) (names_total names) (names_ties names) (numbers (length names))) v (in_numbers (length names) v h)

same_row_of : (n : ℕ) (a b : Cells) → length a ≡ length b → restricted n a ≡ a → restricted n b ≡ b → ((v : ℕ) → v < n → bindings_of a v ≡ bindings_of b v) → a ≡ b
same_row_of n [] [] l e f h = refl
same_row_of n [] (d ∷ ds) l e f h = absurd (let z : zero ≡ suc (length ds) = l in omega arith)
same_row_of n (c ∷ cs) [] l e f h = absurd (let z : suc (length cs) ≡ zero = l in omega arith)
same_row_of zero (c ∷ cs) (d ∷ ds) l e f h =
    let m : suc (length cs) ≡ suc (length ds) = l in
    ap₂ (λ (o : Option Term) (r : Cells). o ∷ r) (sym (ap first_of e) ∙ ap first_of f) (same_row_of zero cs ds (omega arith) (ap rest_of e) (ap rest_of f) (λ v k. absurd (omega arith)))
same_row_of (suc n) (c ∷ cs) (d ∷ ds) l e f h =
    let m : suc (length cs) ≡ suc (length ds) = l in
    ap₂ (λ (o : Option Term) (r : Cells). o ∷ r) (h zero (omega arith)) (same_row_of n cs ds (omega arith) (ap rest_of e) (ap rest_of f) (λ v k. h (suc v) (omega arith)))

last_decides_nothing : (o p : Ordering) → (o ≡ Equal → p ≡ Equal) → ordering_then o p ≡ o
last_decides_nothing Less p f = refl
last_decides_nothing Equal p f = f refl
last_decides_nothing Greater p f = refl

pub names_decide : (q : Query) → KeepsShape q.body → (g : List Triple) (a b : Cells) → IsIn (body_rows q g) a → IsIn (body_rows q g) b → row_cmp q a b ≡ solution_cmp q a b
names_decide q law g a b h k =
    let s = law.shapes q.width (length q.names) (graph g) a h in
    let t = law.shapes q.width (length q.names) (graph g) b k in
    let one : bindings_cmp (by_name q.names) a b ≡ Equal → a ≡ b =
    λ e. same_row_of (length q.names) a b (s.0 ∙ sym t.0) s.1 t.1 (λ v l. same_bindings (by_name q.names) a b e v (named q.names v l)) in
    let ties : bindings_cmp (by_name q.names) a b ≡ Equal → slice_cmp term_order a b ≡ Equal =
    λ e. subst (λ (c : Cells). slice_cmp term_order a c ≡ Equal) (one e) (tied_itself cells_total a) in
    ap (λ (o : Ordering). ordering_then (keys_cmp q.order a b) o) (last_decides_nothing (bindings_cmp (by_name q.names) a b) (slice_cmp term_order a b) ties)

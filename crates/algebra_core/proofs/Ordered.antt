-- A list has one sorted order, where elements that tie are equal.
use Rattle.std.proofs.Common.{◌≡◌, ◌∙◌, sym, ap, ap₂, subst, refl, ℕ, zero, suc, ◌<◌, get_or, Bool, true, false, not, cond, List, [], ◌∷◌, ◌++◌, length, arith, Ordering, Less, Equal, Greater, is_lt, is_gt, is_eq, true≢false, IsPermutation, IsSorted}
use Rattle.std.specs.Prelude.{if◌then◌else◌}
use Rattle.std.specs.List.{AllByRecursion}
use Rattle.std.specs.Cmp.{IsTotalOrder}
use Rattle.std.specs.Ordering.{ordering_reverse}
use Rattle.std.proofs.lemmas.Cmp.{tied_itself, upto}
use Rattle.std.proofs.lemmas.List.Elements.{recursion_from_All, All-from_recursion}
use Rattle.std.proofs.lemmas.List.Sorted.{length_permutation, All-permutation, IsPermutation-refl, IsPermutation-sym, IsPermutation-cons, IsPermutation-trans, IsPermutation-append_left, IsPermutation-append_comm}
use Rattle.algebra_core.proofs.Bags.{along, then_bag}
use Rattle.algebra_core.specs.Order.{inserted, in_order}

module _ {X : Type 0} (cmp : X → X → Ordering) (total : IsTotalOrder cmp) (ties : (a b : X) → cmp a b ≡ Equal → a ≡ b) where
  abbrev AtMost : X → X → Type 0
  AtMost a b = is_gt (cmp a b) ≡ false

  abbrev Ascends : List X → Type 0
  Ascends [] = Unit {0}
  Ascends (x ∷ xs) = AllByRecursion (AtMost x) xs × Ascends xs

  weaker : (P Q : X → Type 0) → ((x : X) → P x → Q x) → (xs : List X) → AllByRecursion P xs → AllByRecursion Q xs
  weaker P Q f [] h = tt
  weaker P Q f (x ∷ xs) h = (f x h.0, weaker P Q f xs h.1)

  turned : (o : Ordering) → is_lt o ≡ false → is_gt (ordering_reverse o) ≡ false
  turned Less h = h
  turned Equal h = refl
  turned Greater h = refl

  below_all : (x : X) (ys : List X) → IsSorted cmp (x ∷ ys) → Ascends ys → AllByRecursion (AtMost x) ys
  below_all x [] sorted up = tt
  below_all x (y ∷ ys) sorted up =
      let first : AtMost x y = ap is_gt (total.antisymm x y) ∙ turned _ (sorted 0 x (omega arith) (omega arith)) in
      (first, weaker (AtMost y) (AtMost x) (λ z. upto total x y z first) ys up.0)

  ascends : (xs : List X) → IsSorted cmp xs → Ascends xs
  ascends [] sorted = tt
  ascends (x ∷ xs) sorted =
      let tail : IsSorted cmp xs = λ k d p q. rw Rattle.std.proofs.Common.add-one (rw Rattle.std.proofs.Common.add-one at (sorted (suc k) d (omega arith) (omega arith))) in
      let up = ascends xs tail in
      (below_all x xs sorted up, up)

  -- the list without the first element that ties with a
  abbrev dropped : X → List X → List X
  dropped a [] = []
  dropped a (x ∷ xs) = cond (is_eq (cmp a x)) xs (x ∷ dropped a xs)

  is_equal : (o : Ordering) → is_eq o ≡ true → o ≡ Equal
  is_equal Less h = absurd (cc)
  is_equal Equal h = refl
  is_equal Greater h = absurd (cc)

  tied : (a x : X) → is_eq (cmp a x) ≡ true → a ≡ x
  tied a x h = ties a x (is_equal (cmp a x) h)

  drop_skip : (a x : X) (xs ys : List X) (b : Bool) → IsPermutation xs ys → IsPermutation (dropped a xs) (dropped a ys) → IsPermutation (cond b xs (x ∷ dropped a xs)) (cond b ys (x ∷ dropped a ys))
  drop_skip a x xs ys true p q = p
  drop_skip a x xs ys false p q = IsPermutation-cons x _ _ q

  swap_two : (x y : X) (l : List X) → IsPermutation (x ∷ y ∷ l) (y ∷ x ∷ l)
  swap_two x y l = IsPermutation-append_left l _ _ (IsPermutation-append_comm (x ∷ []) (y ∷ []))

  drop_turn : (a x y : X) (l m : List X) (b c : Bool) → (b ≡ true → a ≡ x) → (c ≡ true → a ≡ y) → IsPermutation (cond b (y ∷ l) (x ∷ cond c l (y ∷ m))) (cond c (x ∷ l) (y ∷ cond b l (x ∷ m)))
  drop_turn a x y l m true true p q = let e : x ≡ y = sym (p refl) ∙ q refl in subst (λ (z : X). IsPermutation (y ∷ l) (z ∷ l)) (sym e) (IsPermutation-refl (y ∷ l))
  drop_turn a x y l m true false p q = IsPermutation-refl (y ∷ l)
  drop_turn a x y l m false true p q = IsPermutation-refl (x ∷ l)
  drop_turn a x y l m false false p q = swap_two x y m

  record Both (a : X) (xs ys : List X) : Type 0 where
    all : IsPermutation xs ys
    rest : IsPermutation (dropped a xs) (dropped a ys)

  both_along : (a : X) (xs ys : List X) → IsPermutation xs ys → Both a xs ys
  both_along a = along (Both a)
      (λ xs. record { all = IsPermutation-refl xs; rest = IsPermutation-refl _ })
      (λ x xs ys h. record { all = IsPermutation-cons x xs ys h.all; rest = drop_skip a x xs ys (is_eq (cmp a x)) h.all h.rest })
      (λ x y xs. record { all = swap_two x y xs; rest = drop_turn a x y xs (dropped a xs) (is_eq (cmp a x)) (is_eq (cmp a y)) (tied a x) (tied a y) })
      (λ xs ys zs h k. record { all = IsPermutation-trans xs ys zs h.all k.all; rest = IsPermutation-trans _ _ _ h.rest k.rest })

  drop_head : (x : X) (xs : List X) → dropped x (x ∷ xs) ≡ xs
  drop_head x xs = ap (λ b. cond b xs (x ∷ dropped x xs)) (ap is_eq (tied_itself total x))

  cancel : (x : X) (xs ys : List X) → IsPermutation (x ∷ xs) (x ∷ ys) → IsPermutation xs ys
  cancel x xs ys p = subst (λ (l : List X). IsPermutation l ys) (drop_head x xs) (subst (IsPermutation (dropped x (x ∷ xs))) (drop_head x ys) (both_along x (x ∷ xs) (x ∷ ys) p).rest)

  first_below : (x y : X) (xs ys : List X) → AllByRecursion (AtMost x) xs → IsPermutation (x ∷ xs) (y ∷ ys) → AtMost x y
  first_below x y xs ys h p =
      let own : AtMost x x = ap is_gt (tied_itself total x) in
      (recursion_from_All (AtMost x) (y ∷ ys) (All-permutation (AtMost x) (x ∷ xs) (y ∷ ys) p (All-from_recursion (AtMost x) (x ∷ xs) (own, h)))).0

  both_below : (x y : X) (o : Ordering) → cmp x y ≡ o → AtMost x y → AtMost y x → x ≡ y
  both_below x y Less e h k = absurd (true≢false (sym (ap is_gt (total.antisymm y x ∙ ap ordering_reverse e)) ∙ k))
  both_below x y Equal e h k = ties x y e
  both_below x y Greater e h k = absurd (true≢false (sym (ap is_gt e) ∙ h))

  same_order : (xs ys : List X) → Ascends xs → Ascends ys → IsPermutation xs ys → xs ≡ ys
  same_order [] [] h k p = refl
  same_order [] (y ∷ ys) h k p = absurd (omega (arith, length_permutation _ _ p))
  same_order (x ∷ xs) [] h k p = absurd (omega (arith, length_permutation _ _ p))
  same_order (x ∷ xs) (y ∷ ys) h k p =
      let e : x ≡ y = both_below x y (cmp x y) refl (first_below x y xs ys h.0 p) (first_below y x ys xs k.0 (IsPermutation-sym _ _ p)) in
      let q : IsPermutation (x ∷ xs) (x ∷ ys) = subst (λ (z : X). IsPermutation (x ∷ xs) (z ∷ ys)) (sym e) p in
      ap₂ ◌∷◌ e (same_order xs ys h.1 k.1 (cancel x xs ys q))

  -- ---- the elements in order

  inserted_bag : (x : X) (xs : List X) → IsPermutation (x ∷ xs) (inserted cmp x xs)
  inserted_bag x [] = IsPermutation-refl (x ∷ [])
  inserted_bag x (y ∷ ys) = elim (is_gt (cmp x y)) as (λ b. IsPermutation (x ∷ y ∷ ys) (if b then y ∷ inserted cmp x ys else x ∷ y ∷ ys)) [
    | true ↦ then_bag (swap_two x y ys) (IsPermutation-cons y _ _ (inserted_bag x ys))
    | false ↦ IsPermutation-refl (x ∷ y ∷ ys)
  ]

  pub in_order_bag : (xs : List X) → IsPermutation xs (in_order cmp xs)
  in_order_bag [] = IsPermutation-refl []
  in_order_bag (x ∷ xs) = then_bag (IsPermutation-cons x _ _ (in_order_bag xs)) (inserted_bag x (in_order cmp xs))

  all_inserted : (P : X → Type 0) (x : X) (ys : List X) → P x → AllByRecursion P ys → AllByRecursion P (inserted cmp x ys)
  all_inserted P x [] p h = (p, tt)
  all_inserted P x (y ∷ ys) p h = elim (is_gt (cmp x y)) as (λ b. AllByRecursion P (if b then y ∷ inserted cmp x ys else x ∷ y ∷ ys)) [
    | true ↦ (h.0, all_inserted P x ys p h.1)
    | false ↦ (p, h)
  ]

  not_both : (o : Ordering) → is_gt o ≡ true → is_gt (ordering_reverse o) ≡ false
  not_both Less h = absurd (true≢false (sym h))
  not_both Equal h = absurd (true≢false (sym h))
  not_both Greater h = refl

  ascends_inserted : (x : X) (ys : List X) → Ascends ys → Ascends (inserted cmp x ys)
  ascends_inserted x [] h = (tt, tt)
  ascends_inserted x (y ∷ ys) h = elim (is_gt (cmp x y)) as (λ b. is_gt (cmp x y) ≡ b → Ascends (if b then y ∷ inserted cmp x ys else x ∷ y ∷ ys)) [
    | true ↦ λ e. (all_inserted (AtMost y) x ys (ap is_gt (total.antisymm y x) ∙ not_both (cmp x y) e) h.0, ascends_inserted x ys h.1)
    | false ↦ λ e. ((e, weaker (AtMost y) (AtMost x) (λ z. upto total x y z e) ys h.0), h)
  ] refl

  ascends_in_order : (xs : List X) → Ascends (in_order cmp xs)
  ascends_in_order [] = tt
  ascends_in_order (x ∷ xs) = ascends_inserted x (in_order cmp xs) (ascends_in_order xs)

  -- a sorted list that is the bag of another is that one in order
  pub sorted_in_order : (xs ys : List X) → IsPermutation xs ys → IsSorted cmp ys → ys ≡ in_order cmp xs
  sorted_in_order xs ys p s = same_order ys (in_order cmp xs) (ascends ys s) (ascends_in_order xs) (then_bag (IsPermutation-sym _ _ p) (in_order_bag xs))

  -- lists that are one bag have one order
  pub one_order : (xs ys : List X) → IsPermutation xs ys → in_order cmp xs ≡ in_order cmp ys
  one_order xs ys p =
      same_order (in_order cmp xs) (in_order cmp ys) (ascends_in_order xs) (ascends_in_order ys) (then_bag (IsPermutation-sym _ _ (in_order_bag xs)) (then_bag p (in_order_bag ys)))

  -- ---- each element is at most the next

  not_less : (o : Ordering) → is_gt o ≡ false → is_lt (ordering_reverse o) ≡ false
  not_less Less h = refl
  not_less Equal h = refl
  not_less Greater h = absurd (true≢false h)

  each_at_most : (xs : List X) → Ascends xs → (k : ℕ) (d : X) → suc k < length xs → is_lt (cmp (get_or xs (suc k) d) (get_or xs k d)) ≡ false
  each_at_most [] up k d h = absurd (omega arith)
  each_at_most (x ∷ []) up k d h = absurd (let z : suc k < suc zero = h in omega arith)
  each_at_most (x ∷ y ∷ ys) up zero d h = ap is_lt (total.antisymm y x) ∙ not_less (cmp x y) up.0.0
  each_at_most (x ∷ y ∷ ys) up (suc k) d h = each_at_most (y ∷ ys) up.1 k d (omega arith)

  pub in_order_sorted : (xs : List X) → IsSorted cmp (in_order cmp xs)
  in_order_sorted xs = λ k d p q. rw Rattle.std.proofs.Common.add-one (each_at_most (in_order cmp xs) (ascends_in_order xs) k d (omega arith))

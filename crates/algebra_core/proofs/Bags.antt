-- Bags: lists up to their order, under what the algebra does.
use Rattle.std.proofs.Common.{◌≡◌, ℕ, zero, suc, ◌<◌, Bool, true, false, cond, List, [], ◌∷◌, ◌++◌, map, filter, flat_map, length, get_or, set, swap, refl, ap, subst, arith, append_assoc, IsPermutation}
use Rattle.std.proofs.lemmas.List.Sorted.{IsPermutation-refl, IsPermutation-sym, IsPermutation-cons, IsPermutation-keeps, IsPermutation-trans, IsPermutation-append, IsPermutation-append_left, IsPermutation-append_right, IsPermutation-append_comm}

-- what is reflexive and transitive, and goes under a head and over two exchanged heads, holds along each permutation
module _ {X : Type 0} (R : List X → List X → Type 0) (same : (xs : List X) → R xs xs)
    (skip : (x : X) (xs ys : List X) → R xs ys → R (x ∷ xs) (x ∷ ys))
    (turn : (x y : X) (xs : List X) → R (x ∷ y ∷ xs) (y ∷ x ∷ xs))
    (chain : (xs ys zs : List X) → R xs ys → R ys zs → R xs zs) where
  to_head : (l : List X) (j : ℕ) (x d : X) → j < length l → R (x ∷ l) (get_or l j d ∷ set l j x)
  to_head [] j x d h = absurd (omega arith)
  to_head (y ∷ l) zero x d h = turn x y l
  to_head (y ∷ l) (suc j) x d h =
      chain _ _ _ (turn x y l) (chain _ _ _ (skip y _ _ (to_head l j x d (omega arith))) (turn y (get_or l j d) (set l j x)))

  exchanged : (l : List X) (i j : ℕ) (d : X) → i < length l → j < length l → R l (set (set l i (get_or l j d)) j (get_or l i d))
  exchanged [] i j d p q = absurd (omega arith)
  exchanged (x ∷ l) zero zero d p q = same (x ∷ l)
  exchanged (x ∷ l) zero (suc j) d p q = to_head l j x d (omega arith)
  exchanged (x ∷ l) (suc i) zero d p q = to_head l i x d (omega arith)
  exchanged (x ∷ l) (suc i) (suc j) d p q = skip x _ _ (exchanged l i j d (omega arith) (omega arith))

  swapped : (l : List X) (i j : ℕ) → i < length l → j < length l → R l (swap l i j)
  swapped [] i j p q = same []
  swapped (x ∷ l) i j p q = exchanged (x ∷ l) i j x p q

  pub along : (xs ys : List X) → IsPermutation xs ys → R xs ys
  along xs = IsPermutation-keeps xs (R xs) (same xs) (λ l i j p q h. chain xs l _ h (swapped l i j p q))

-- short forms
pub same_bag : {X : Type 0} {xs ys : List X} → xs ≡ ys → IsPermutation xs ys
same_bag {X} {xs} {ys} e = subst (IsPermutation xs) e (IsPermutation-refl xs)

pub then_bag : {X : Type 0} {xs ys zs : List X} → IsPermutation xs ys → IsPermutation ys zs → IsPermutation xs zs
then_bag p q = IsPermutation-trans _ _ _ p q

pub back : {X : Type 0} {xs ys : List X} → IsPermutation xs ys → IsPermutation ys xs
back p = IsPermutation-sym _ _ p

pub both : {X : Type 0} {xs ys us vs : List X} → IsPermutation xs ys → IsPermutation us vs → IsPermutation (xs ++ us) (ys ++ vs)
both p q = IsPermutation-append _ _ _ _ p q

-- the two middle ones of four change places
pub four : {X : Type 0} (a b c d : List X) → IsPermutation ((a ++ b) ++ (c ++ d)) ((a ++ c) ++ (b ++ d))
four a b c d =
    let left : (a ++ b) ++ (c ++ d) ≡ a ++ ((b ++ c) ++ d) = simp append_assoc in
    let right : (a ++ c) ++ (b ++ d) ≡ a ++ ((c ++ b) ++ d) = simp append_assoc in
    rw (left, right) (IsPermutation-append_right a _ _ (IsPermutation-append_left d _ _ (IsPermutation-append_comm b c)))

pub flat_bag : {A B : Type 0} (f : A → List B) (xs ys : List A) → IsPermutation xs ys → IsPermutation (flat_map f xs) (flat_map f ys)
flat_bag f = along (λ xs ys. IsPermutation (flat_map f xs) (flat_map f ys))
    (λ xs. IsPermutation-refl _)
    (λ x xs ys h. IsPermutation-append_right (f x) _ _ h)
    (λ x y xs. rw (← append_assoc (f x), ← append_assoc (f y)) (IsPermutation-append_left (flat_map f xs) _ _ (IsPermutation-append_comm (f x) (f y))))
    (λ xs ys zs. IsPermutation-trans _ _ _)

-- two functions that give the same bag of each element
pub flat_each : {A B : Type 0} (f g : A → List B) → ((x : A) → IsPermutation (f x) (g x)) → (xs : List A) → IsPermutation (flat_map f xs) (flat_map g xs)
flat_each f g each [] = IsPermutation-refl []
flat_each f g each (x ∷ xs) = both (each x) (flat_each f g each xs)

-- what each element gives in two parts
pub flat_parts : {A B : Type 0} (f g : A → List B) (xs : List A) → IsPermutation (flat_map (λ x. f x ++ g x) xs) (flat_map f xs ++ flat_map g xs)
flat_parts f g [] = IsPermutation-refl []
flat_parts f g (x ∷ xs) = then_bag (both (IsPermutation-refl (f x ++ g x)) (flat_parts f g xs)) (four (f x) (g x) (flat_map f xs) (flat_map g xs))

pub filter_append : {A : Type 0} (p : A → Bool) (xs ys : List A) → filter p (xs ++ ys) ≡ filter p xs ++ filter p ys
filter_append p [] ys = refl
filter_append p (x ∷ xs) ys =
    elim (p x) as (λ b. cond b (x ∷ filter p (xs ++ ys)) (filter p (xs ++ ys)) ≡ cond b (x ∷ filter p xs) (filter p xs) ++ filter p ys)
    [ true ↦ ap (λ l. x ∷ l) (filter_append p xs ys) | false ↦ filter_append p xs ys ]

filter_turn : {A : Type 0} (p : A → Bool) (b c : Bool) (x y : A) (r : List A) → IsPermutation (cond b (x ∷ cond c (y ∷ r) r) (cond c (y ∷ r) r)) (cond c (y ∷ cond b (x ∷ r) r) (cond b (x ∷ r) r))
filter_turn p true true x y r = IsPermutation-append_left r _ _ (IsPermutation-append_comm (x ∷ []) (y ∷ []))
filter_turn p true false x y r = IsPermutation-refl _
filter_turn p false true x y r = IsPermutation-refl _
filter_turn p false false x y r = IsPermutation-refl _

pub filter_bag : {A : Type 0} (p : A → Bool) (xs ys : List A) → IsPermutation xs ys → IsPermutation (filter p xs) (filter p ys)
filter_bag p = along (λ xs ys. IsPermutation (filter p xs) (filter p ys))
    (λ xs. IsPermutation-refl _)
    (λ x xs ys h. elim (p x) as (λ b. IsPermutation (cond b (x ∷ filter p xs) (filter p xs)) (cond b (x ∷ filter p ys) (filter p ys))) [ true ↦ IsPermutation-cons x _ _ h | false ↦ h ])
    (λ x y xs. filter_turn p (p x) (p y) x y (filter p xs))
    (λ xs ys zs. IsPermutation-trans _ _ _)

pub two_turned : {X : Type 0} (x y : X) (l : List X) → IsPermutation (x ∷ y ∷ l) (y ∷ x ∷ l)
two_turned x y l = IsPermutation-append_left l _ _ (IsPermutation-append_comm (x ∷ []) (y ∷ []))

pub map_bag : {A B : Type 0} (f : A → B) (xs ys : List A) → IsPermutation xs ys → IsPermutation (map f xs) (map f ys)
map_bag f = along (λ xs ys. IsPermutation (map f xs) (map f ys))
    (λ xs. IsPermutation-refl _)
    (λ x xs ys h. IsPermutation-cons (f x) _ _ h)
    (λ x y xs. two_turned (f x) (f y) (map f xs))
    (λ xs ys zs. IsPermutation-trans _ _ _)

-- Bags: lists up to their order.
use Rattle.std.proofs.Common.{◌≡◌, List, [], ◌∷◌, ◌++◌, flat_map, subst, append_assoc, IsPermutation}
use Rattle.std.proofs.lemmas.List.Sorted.{IsPermutation-refl, IsPermutation-sym, IsPermutation-trans, IsPermutation-append, IsPermutation-append_left, IsPermutation-append_right, IsPermutation-append_comm}

pub same_bag : {X : Type 0} {xs ys : List X} → xs ≡ ys → IsPermutation xs ys
same_bag {X} {xs} {ys} e = subst (IsPermutation xs) e (IsPermutation-refl xs)

pub then_bag : {X : Type 0} {xs ys zs : List X} → IsPermutation xs ys → IsPermutation ys zs → IsPermutation xs zs
then_bag p q = IsPermutation-trans _ _ _ p q

pub back : {X : Type 0} {xs ys : List X} → IsPermutation xs ys → IsPermutation ys xs
back p = IsPermutation-sym _ _ p

pub both : {X : Type 0} {xs ys us vs : List X} → IsPermutation xs ys → IsPermutation us vs → IsPermutation (xs ++ us) (ys ++ vs)
both p q = IsPermutation-append _ _ _ _ p q

-- the two middle ones of four change places
pub four : {X : Type 0} (a b c d : List X) → IsPermutation ((a ++ b) ++ (c ++ d)) ((a ++ c) ++ (b ++ d))
four a b c d =
    let left : (a ++ b) ++ (c ++ d) ≡ a ++ ((b ++ c) ++ d) = simp append_assoc in
    let right : (a ++ c) ++ (b ++ d) ≡ a ++ ((c ++ b) ++ d) = simp append_assoc in
    rw (left, right) (IsPermutation-append_right a _ _ (IsPermutation-append_left d _ _ (IsPermutation-append_comm b c)))

-- two functions that give the same bag of each element
pub flat_each : {A B : Type 0} (f g : A → List B) → ((x : A) → IsPermutation (f x) (g x)) → (xs : List A) → IsPermutation (flat_map f xs) (flat_map g xs)
flat_each f g each [] = IsPermutation-refl []
flat_each f g each (x ∷ xs) = both (each x) (flat_each f g each xs)

-- what each element gives in two parts
pub flat_parts : {A B : Type 0} (f g : A → List B) (xs : List A) → IsPermutation (flat_map (λ x. f x ++ g x) xs) (flat_map f xs ++ flat_map g xs)
flat_parts f g [] = IsPermutation-refl []
flat_parts f g (x ∷ xs) = then_bag (both (IsPermutation-refl (f x ++ g x)) (flat_parts f g xs)) (four (f x) (g x) (flat_map f xs) (flat_map g xs))

-- Members of lists that are made of lists, and when each stands once.
use Rattle.std.proofs.Common.{◌≡◌, List, [], ◌∷◌, ◌++◌, flat_map, refl, sym, subst, inl, inr}
use Rattle.rdf_terms.specs.Lists.{IsIn, Apart}
use Rattle.rdf_terms.proofs.Members.{in_left, in_right, in_either}

pub in_flat : {A B : Type 0} (f : A → List B) (xs : List A) (x : A) (y : B) → IsIn xs x → IsIn (f x) y → IsIn (flat_map f xs) y
in_flat f [] x y h k = absurd h
in_flat f (z ∷ zs) x y (inl e) k = in_left (f z) (flat_map f zs) y (subst (λ w. IsIn (f w) y) (sym e) k)
in_flat f (z ∷ zs) x y (inr h) k = in_right (f z) (flat_map f zs) y (in_flat f zs x y h k)

pub from_flat : {A B : Type 0} (f : A → List B) (xs : List A) (y : B) → IsIn (flat_map f xs) y → (x : A) × IsIn xs x × IsIn (f x) y
from_flat f [] y h = absurd h
from_flat f (z ∷ zs) y h = elim (in_either (f z) (flat_map f zs) y h) [ inl i ↦ (z, inl refl, i) | inr j ↦ let r = from_flat f zs y j in (r.0, inr r.1, r.2) ]

apart_append : {B : Type 0} (xs ys : List B) → Apart xs → Apart ys → ((y : B) → IsIn xs y → IsIn ys y → ⊥) → Apart (xs ++ ys)
apart_append [] ys a b n = b
apart_append (x ∷ xs) ys a b n =
    ((λ h. elim (in_either xs ys x h) [ inl i ↦ a.0 i | inr j ↦ n x (inl refl) j ]), apart_append xs ys a.1 b (λ y i j. n y (inr i) j))

-- lists that have no member in common, of which each has each member once
pub apart_flat : {A B : Type 0} (f : A → List B) (xs : List A) → Apart xs → ((x : A) → IsIn xs x → Apart (f x)) → ((x z : A) (y : B) → IsIn xs x → IsIn xs z → IsIn (f x) y → IsIn (f z) y → x ≡ z) → Apart (flat_map f xs)
apart_flat f [] a each one = tt
apart_flat f (x ∷ xs) a each one =
    apart_append (f x) (flat_map f xs) (each x (inl refl)) (apart_flat f xs a.1 (λ z h. each z (inr h)) (λ u w y h k. one u w y (inr h) (inr k)))
    (λ y i j. let r = from_flat f xs y j in a.0 (subst (λ w. IsIn xs w) (sym (one x r.0 y (inl refl) (inr r.1) i r.2)) r.1))

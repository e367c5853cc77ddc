-- Lists with each member once are bags of their members.
use Rattle.std.proofs.Common.{◌≡◌, ◌⊎◌, List, [], ◌∷◌, ◌++◌, refl, sym, ap, subst, inl, inr, append-nil, IsPermutation}
use Rattle.std.proofs.lemmas.List.Sorted.{IsPermutation-refl, IsPermutation-cons, IsPermutation-append_left, IsPermutation-append_comm}
use Rattle.rdf_terms.specs.Lists.{IsIn, Apart}
use Rattle.rdf_terms.proofs.Members.{in_left, in_right, in_either}
use Rattle.algebra_core.specs.Bags.{IsSubBag, IsWithin}
use Rattle.algebra_core.proofs.Bags.{along, same_bag, then_bag, back}

-- a member parts the list in two
record Parted {X : Type 0} (xs : List X) (x : X) : Type 0 where
  before : List X
  after : List X
  is : xs ≡ before ++ x ∷ after

parted : {X : Type 0} (xs : List X) (x : X) → IsIn xs x → Parted xs x
parted [] x h = absurd h
parted (y ∷ ys) x (inl e) = record { before = []; after = ys; is = ap (λ z. z ∷ ys) e }
parted (y ∷ ys) x (inr h) = let p = parted ys x h in record { before = y ∷ p.before; after = p.after; is = ap (λ (l : List _). y ∷ l) p.is }

to_front : {X : Type 0} (before after : List X) (x : X) → IsPermutation (x ∷ (before ++ after)) (before ++ x ∷ after)
to_front [] after x = IsPermutation-refl (x ∷ after)
to_front (y ∷ ys) after x = then_bag (IsPermutation-append_left (ys ++ after) _ _ (IsPermutation-append_comm (x ∷ []) (y ∷ []))) (IsPermutation-cons y _ _ (to_front ys after x))

in_rest : {X : Type 0} (before after : List X) (x y : X) → IsIn (before ++ x ∷ after) y → (x ≡ y) ⊎ IsIn (before ++ after) y
in_rest before after x y h = elim (in_either before (x ∷ after) y h) [
  | inl i ↦ inr (in_left before after y i)
  | inr j ↦ elim j [ inl e ↦ inl e | inr k ↦ inr (in_right before after y k) ]
]

in_whole : {X : Type 0} (before after : List X) (x y : X) → IsIn (before ++ after) y → IsIn (before ++ x ∷ after) y
in_whole before after x y h = elim (in_either before after y h) [ inl i ↦ in_left before (x ∷ after) y i | inr j ↦ in_right before (x ∷ after) y (inr j) ]

rest_apart : {X : Type 0} (before after : List X) (x : X) → Apart (before ++ x ∷ after) → Apart (before ++ after) × (IsIn (before ++ after) x → ⊥)
rest_apart [] after x a = (a.1, a.0)
rest_apart (y ∷ ys) after x a =
    let r = rest_apart ys after x a.1 in
    (((λ h. a.0 (in_whole ys after x y h)), r.0), (λ h. elim h [ inl e ↦ a.0 (in_right ys (x ∷ after) y (inl (sym e))) | inr k ↦ r.1 k ]))

-- a member of a list without repeats does not stand before itself
pub apart_seam : {X : Type 0} (before after : List X) (x : X) → Apart (before ++ x ∷ after) → IsIn before x → ⊥
apart_seam before after x a h = (rest_apart before after x a).1 (in_left before after x h)

-- what is more in the second list, which is no member of the first
pub record Rest {X : Type 0} (xs ys : List X) : Type 0 where
  pub more : List X
  pub is : IsPermutation (xs ++ more) ys
  pub of : (y : X) → IsIn more y → IsIn ys y
  pub new : (y : X) → IsIn more y → IsIn xs y → ⊥

pub rest_of : {X : Type 0} (xs ys : List X) → Apart xs → Apart ys → IsWithin xs ys → Rest xs ys
rest_of [] ys a b w = record { more = ys; is = IsPermutation-refl ys; of = λ y h. h; new = λ y h k. k }
rest_of {X} (x ∷ xs) ys a b w =
    let p = parted ys x (w x (inl refl)) in
    let whole : ys ≡ p.before ++ x ∷ p.after = p.is in
    let r = rest_apart p.before p.after x (subst (λ (l : List X). Apart l) whole b) in
    let within : IsWithin xs (p.before ++ p.after) = λ y h. elim (in_rest p.before p.after x y (subst (λ (l : List X). IsIn l y) whole (w y (inr h)))) [
      | inl e ↦ absurd (a.0 (subst (λ (z : X). IsIn xs z) (sym e) h))
      | inr k ↦ k
    ] in
    let s = rest_of xs (p.before ++ p.after) a.1 r.0 within in
    record {
      more = s.more;
      is = then_bag (IsPermutation-cons x _ _ s.is) (then_bag (to_front p.before p.after x) (same_bag (sym whole)));
      of = λ y h. subst (λ (l : List X). IsIn l y) (sym whole) (in_whole p.before p.after x y (s.of y h));
      new = λ y h k. elim k [ inl e ↦ r.1 (subst (λ (z : X). IsIn (p.before ++ p.after) z) (sym e) (s.of y h)) | inr j ↦ s.new y h j ];
    }

pub apart_sub : {X : Type 0} (xs ys : List X) → Apart xs → Apart ys → IsWithin xs ys → IsSubBag xs ys
apart_sub xs ys a b w = let r = rest_of xs ys a b w in record { more = r.more; is = r.is }

no_more : {X : Type 0} (xs more ys : List X) → IsPermutation (xs ++ more) ys → ((y : X) → IsIn more y → ⊥) → IsPermutation xs ys
no_more xs [] ys p n = then_bag (back (same_bag (append-nil xs))) p
no_more xs (m ∷ more) ys p n = absurd (n m (inl refl))

pub apart_bag : {X : Type 0} (xs ys : List X) → Apart xs → Apart ys → IsWithin xs ys → IsWithin ys xs → IsPermutation xs ys
apart_bag xs ys a b w v = let r = rest_of xs ys a b w in no_more xs r.more ys r.is (λ y h. r.new y h (v y (r.of y h)))

-- a bag's members
pub bag_within : {X : Type 0} (xs ys : List X) → IsPermutation xs ys → IsWithin xs ys
bag_within {X} = along (λ xs ys. IsWithin xs ys)
    (λ xs x h. h)
    (λ x xs ys f y h. elim h [ inl e ↦ inl e | inr k ↦ inr (f y k) ])
    (λ x y xs z h. elim h [ inl e ↦ inr (inl e) | inr k ↦ elim k [ inl e ↦ inl e | inr j ↦ inr (inr j) ] ])
    (λ xs ys zs f g x h. g x (f x h))

-- A bag within a larger one, under what the algebra does.
use Rattle.std.proofs.Common.{◌≡◌, Bool, List, [], ◌∷◌, ◌++◌, map, filter, flat_map, append-nil, append_assoc}
use Rattle.std.proofs.lemmas.List.{map-append}
use Rattle.std.proofs.lemmas.List.Concat.{flat_map-append}
use Rattle.std.proofs.lemmas.List.Sorted.{IsPermutation-refl}
use Rattle.algebra_core.specs.Bags.{IsSubBag}
use Rattle.algebra_core.proofs.Bags.{same_bag, then_bag, back, both, four, flat_bag, map_bag, filter_append, filter_bag}

pub sub_refl : {X : Type 0} (xs : List X) → IsSubBag xs xs
sub_refl xs = record { more = []; is = same_bag (append-nil xs) }

pub sub_same : {X : Type 0} (xs ys : List X) → xs ≡ ys → IsSubBag xs ys
sub_same xs ys e = record { more = []; is = then_bag (same_bag (append-nil xs)) (same_bag e) }

pub sub_trans : {X : Type 0} (xs ys zs : List X) → IsSubBag xs ys → IsSubBag ys zs → IsSubBag xs zs
sub_trans xs ys zs a b = record {
  more = a.more ++ b.more;
  is = then_bag (back (same_bag (append_assoc xs a.more b.more))) (then_bag (both a.is (IsPermutation-refl b.more)) b.is);
}

pub sub_append : {X : Type 0} (xs us ys vs : List X) → IsSubBag xs us → IsSubBag ys vs → IsSubBag (xs ++ ys) (us ++ vs)
sub_append xs us ys vs a b = record { more = a.more ++ b.more; is = then_bag (four xs ys a.more b.more) (both a.is b.is) }

pub sub_flat : {A B : Type 0} (f : A → List B) (xs ys : List A) → IsSubBag xs ys → IsSubBag (flat_map f xs) (flat_map f ys)
sub_flat f xs ys a = record {
  more = flat_map f a.more;
  is = then_bag (back (same_bag (flat_map-append f xs a.more))) (flat_bag f (xs ++ a.more) ys a.is);
}

pub sub_each : {A B : Type 0} (f g : A → List B) → ((x : A) → IsSubBag (f x) (g x)) → (xs : List A) → IsSubBag (flat_map f xs) (flat_map g xs)
sub_each f g each [] = sub_refl []
sub_each f g each (x ∷ xs) = sub_append (f x) (g x) (flat_map f xs) (flat_map g xs) (each x) (sub_each f g each xs)

pub sub_map : {A B : Type 0} (f : A → B) (xs ys : List A) → IsSubBag xs ys → IsSubBag (map f xs) (map f ys)
sub_map f xs ys a = record {
  more = map f a.more;
  is = then_bag (back (same_bag (map-append f xs a.more))) (map_bag f (xs ++ a.more) ys a.is);
}

pub sub_filter : {A : Type 0} (p : A → Bool) (xs ys : List A) → IsSubBag xs ys → IsSubBag (filter p xs) (filter p ys)
sub_filter p xs ys a = record {
  more = filter p a.more;
  is = then_bag (back (same_bag (filter_append p xs a.more))) (filter_bag p (xs ++ a.more) ys a.is);
}

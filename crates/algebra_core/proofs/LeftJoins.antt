-- A left join is a filtered join, and the rows without a match.
use Rattle.std.proofs.Common.{◌≡◌, Bool, true, false, List, [], ◌∷◌, ◌++◌, filter, flat_map, refl, sym, ◌∙◌, ap, append-nil, IsPermutation}
use Rattle.std.specs.Prelude.{◌&&◌, ◌||◌, not, if◌then◌else◌}
use Rattle.std.specs.List.{list_any}
use Rattle.rows_core.specs.Rows.{Cells, fits, merged}
use Rattle.algebra_core.specs.Meaning.{joined, join, or_alone, left_joined}
use Rattle.algebra_core.specs.OptionalParts.{has_match, unmatched}
use Rattle.algebra_core.proofs.Bags.{same_bag, then_bag, both, flat_each, flat_parts, filter_append}

-- the element, where the test holds
abbrev one_if : Bool → Cells → List Cells
one_if b c = if b then c ∷ [] else []

filter_flat : {A : Type 0} (p : Cells → Bool) (f : A → List Cells) (xs : List A) → filter p (flat_map f xs) ≡ flat_map (λ x. filter p (f x)) xs
filter_flat p f [] = refl
filter_flat p f (x ∷ xs) = filter_append p (f x) (flat_map f xs) ∙ ap (λ (l : List Cells). filter p (f x) ++ l) (filter_flat p f xs)

filter_one : (p : Cells → Bool) (b : Bool) (c : Cells) → filter p (one_if b c) ≡ one_if (b && p c) c
filter_one p true c = refl
filter_one p false c = refl

-- the merges that pass the test
abbrev passing : (Cells → Bool) → List Cells → Cells → List Cells
passing p ys a = filter p (flat_map (joined a) ys)

each_passing : (p : Cells → Bool) (ys : List Cells) (a : Cells) → flat_map (λ b. filter p (joined a b)) ys ≡ flat_map (λ b. one_if (fits a b && p (merged a b)) (merged a b)) ys
each_passing p [] a = refl
each_passing p (y ∷ ys) a =
    ap (λ (l : List Cells). l ++ flat_map (λ b. filter p (joined a b)) ys) (filter_one p (fits a y) (merged a y))
    ∙ ap (λ (l : List Cells). one_if (fits a y && p (merged a y)) (merged a y) ++ l) (each_passing p ys a)

passing_is : (p : Cells → Bool) (ys : List Cells) (a : Cells) → passing p ys a ≡ flat_map (λ b. one_if (fits a b && p (merged a b)) (merged a b)) ys
passing_is p ys a = filter_flat p (joined a) ys ∙ each_passing p ys a

-- a row beside its matches: they, or it alone
alone_step : (a c : Cells) (t r : Bool) (l : List Cells) → or_alone a l ≡ l ++ one_if (not r) a → or_alone a (one_if t c ++ l) ≡ (one_if t c ++ l) ++ one_if (not (t || r)) a
alone_step a c true r l e = sym (append-nil (c ∷ l))
alone_step a c false r l e = e

alone_parts : (a : Cells) (t : Cells → Bool) (m : Cells → Cells) (ys : List Cells) → or_alone a (flat_map (λ b. one_if (t b) (m b)) ys) ≡ flat_map (λ b. one_if (t b) (m b)) ys ++ one_if (not (list_any t ys)) a
alone_parts a t m [] = refl
alone_parts a t m (y ∷ ys) = alone_step a (m y) (t y) (list_any t ys) (flat_map (λ b. one_if (t b) (m b)) ys) (alone_parts a t m ys)

row_parts : (p : Cells → Bool) (ys : List Cells) (a : Cells) → or_alone a (passing p ys a) ≡ passing p ys a ++ one_if (not (has_match p ys a)) a
row_parts p ys a =
    ap (or_alone a) (passing_is p ys a)
    ∙ (alone_parts a (λ b. fits a b && p (merged a b)) (merged a) ys ∙ ap (λ (l : List Cells). l ++ one_if (not (has_match p ys a)) a) (sym (passing_is p ys a)))

filter_step : (b : Bool) (x : Cells) (l : List Cells) → one_if b x ++ l ≡ (if b then x ∷ l else l)
filter_step true x l = refl
filter_step false x l = refl

flat_filter : (q : Cells → Bool) (xs : List Cells) → flat_map (λ a. one_if (q a) a) xs ≡ filter q xs
flat_filter q [] = refl
flat_filter q (x ∷ xs) = filter_step (q x) x (flat_map (λ a. one_if (q a) a) xs) ∙ ap (λ (l : List Cells). if q x then x ∷ l else l) (flat_filter q xs)

pub left_joined_is : (p : Cells → Bool) (xs ys : List Cells) → IsPermutation (left_joined p xs ys) (filter p (join xs ys) ++ unmatched p xs ys)
left_joined_is p xs ys =
    then_bag (flat_each (λ a. or_alone a (passing p ys a)) (λ a. passing p ys a ++ one_if (not (has_match p ys a)) a) (λ a. same_bag (row_parts p ys a)) xs)
    (then_bag (flat_parts (passing p ys) (λ a. one_if (not (has_match p ys a)) a) xs)
    (both (same_bag (sym (filter_flat p (λ a. flat_map (joined a) ys) xs))) (same_bag (flat_filter (λ a. not (has_match p ys a)) xs))))

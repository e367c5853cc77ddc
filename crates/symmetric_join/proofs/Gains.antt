-- The join of two lists of rows that grow.
use Rattle.std.proofs.Common.{◌≡◌, List, [], ◌∷◌, ◌++◌, flat_map, refl, sym, ap, ◌∙◌, subst, append_assoc, append-nil, IsPermutation}
use Rattle.std.proofs.lemmas.List.Concat.{flat_map-append}
use Rattle.std.proofs.lemmas.List.Sorted.{IsPermutation-refl, IsPermutation-append_right}
use Rattle.rows_core.specs.Rows.{Cells}
use Rattle.symmetric_join.specs.Joins.{joined, join}
use Rattle.symmetric_join.specs.Sides.{Sides, with_right, right_merges, output}
use Rattle.symmetric_join.proofs.Bags.{same_bag, then_bag, back, both, flat_each, flat_parts}

abbrev nothing : {A B : Type 0} → A → List B
nothing x = []

flat_none : {A B : Type 0} (xs : List A) → flat_map (nothing {A = A} {B = B}) xs ≡ []
flat_none [] = refl
flat_none (x ∷ xs) = flat_none xs

-- the two loops of a product change places
pub turned : {A B C : Type 0} (f : A → B → List C) (xs : List A) (ys : List B) → IsPermutation (flat_map (λ y. flat_map (λ x. f x y) xs) ys) (flat_map (λ x. flat_map (f x) ys) xs)
turned f [] ys = same_bag (flat_none ys)
turned f (x ∷ xs) ys = then_bag (flat_parts (f x) (λ y. flat_map (λ a. f a y) xs) ys) (both (IsPermutation-refl (flat_map (f x) ys)) (turned f xs ys))

pub join_left : (xs ds ys : List Cells) → join (xs ++ ds) ys ≡ join xs ys ++ join ds ys
join_left xs ds ys = flat_map-append (λ a. flat_map (joined a) ys) xs ds

pub join_right : (xs ys es : List Cells) → IsPermutation (join xs (ys ++ es)) (join xs ys ++ join xs es)
join_right xs ys es =
    then_bag (flat_each (λ a. flat_map (joined a) (ys ++ es)) (λ a. flat_map (joined a) ys ++ flat_map (joined a) es) (λ a. same_bag (flat_map-append (joined a) ys es)) xs)
    (flat_parts (λ a. flat_map (joined a) ys) (λ a. flat_map (joined a) es) xs)

-- what the mirror feed gives
abbrev pub mirror : List Cells → List Cells → List Cells
mirror xs es = flat_map (λ e. flat_map (λ a. joined a e) xs) es

pub mirror_join : (xs es : List Cells) → IsPermutation (mirror xs es) (join xs es)
mirror_join xs es = turned joined xs es

-- one row more on the left, and on the right
pub gains_left : (xs ys : List Cells) (d : Cells) → IsPermutation (join (xs ++ d ∷ []) ys) (join xs ys ++ flat_map (joined d) ys)
gains_left xs ys d = same_bag (join_left xs (d ∷ []) ys ∙ ap (λ l. join xs ys ++ l) (append-nil (flat_map (joined d) ys)))

pub gains_right : (xs ys : List Cells) (e : Cells) → IsPermutation (join xs (ys ++ e ∷ [])) (join xs ys ++ flat_map (λ a. joined a e) xs)
gains_right xs ys e =
    then_bag (join_right xs ys (e ∷ [])) (IsPermutation-append_right (join xs ys) _ _
    (then_bag (back (mirror_join xs (e ∷ []))) (same_bag (append-nil (flat_map (λ a. joined a e) xs)))))

-- both sides grow: first the left rows are fed, then the right ones
pub join_grows : (xs ds ys es : List Cells) → IsPermutation (join (xs ++ ds) (ys ++ es)) (join xs ys ++ (join ds ys ++ mirror (xs ++ ds) es))
join_grows xs ds ys es =
    then_bag (join_right (xs ++ ds) ys es)
    (then_bag (both (same_bag (join_left xs ds ys)) (back (mirror_join (xs ++ ds) es))) (same_bag (append_assoc (join xs ys) (join ds ys) (mirror (xs ++ ds) es))))

-- what the two sides gain by a row
pub gains_fed_right : (old new : Sides) (row : Cells) (out : List Cells) → new ≡ with_right old row → out ≡ right_merges row old.lefts → IsPermutation (output new) (output old ++ out)
gains_fed_right old new row out e f =
    subst (λ (s : Sides). IsPermutation (output s) (output old ++ out)) (sym e) (subst (λ (l : List Cells). IsPermutation (output (with_right old row)) (output old ++ l)) (sym f) (gains_right old.lefts old.rights row))

-- Places of the items that pass a test: one item more, two tests, and the items at them.
use Rattle.std.proofs.Common.{ℕ, zero, suc, ◌≡◌, ◌+◌, ◌<◌, ◌≤◌, Bool, true, false, cond, List, [], ◌∷◌, ◌++◌, Option, Some, refl, sym, ◌∙◌, ap, length, drop, filter, append-nil, append_assoc, add-one, arith}
use Rattle.std.specs.Prelude.{if◌then◌else◌, ◌||◌, slice_get, nat_lt}
use Rattle.std.specs.List.{AllByRecursion}
use Rattle.std.specs.Option.{option_to_list}
use Rattle.std.proofs.lemmas.Bool.Decides.{nat_tests}
use Rattle.rows_core.specs.Rows.{Cells}
use Rattle.symmetric_join.specs.Joins.{rows_at}
use Rattle.symmetric_join.specs.Keys.{places_from, before_place, merged_places}

-- ---- one item more

lead : (b : Bool) (n : ℕ) (p q r : List ℕ) → p ≡ q ++ r → (if b then n ∷ p else p) ≡ (if b then n ∷ q else q) ++ r
lead true n p q r e = ap (λ (l : List ℕ). n ∷ l) e
lead false n p q r e = e

pub places_push : {X : Type 0} (n m : ℕ) (test : X → Bool) (xs : List X) (x : X) → m ≡ n + length xs → places_from n test (xs ++ x ∷ []) ≡ places_from n test xs ++ (if test x then m ∷ [] else [])
places_push n m test [] x e = let s : n ≡ m = omega arith in ap (λ (k : ℕ). if test x then k ∷ [] else []) s
places_push n m test (y ∷ ys) x e =
    lead (test y) n (places_from (n + 1) test (ys ++ x ∷ [])) (places_from (n + 1) test ys) (if test x then m ∷ [] else []) (places_push (n + 1) m test ys x (omega arith))

-- ---- the places lie within

below_more : (b : Bool) (n m : ℕ) (l : List ℕ) → n < m → AllByRecursion (λ p. p < m) l → AllByRecursion (λ p. p < m) (if b then n ∷ l else l)
below_more true n m l h a = (h, a)
below_more false n m l h a = a

pub places_below : {X : Type 0} (n m : ℕ) (test : X → Bool) (xs : List X) → n + length xs ≤ m → AllByRecursion (λ p. p < m) (places_from n test xs)
places_below n m test [] h = tt
places_below n m test (x ∷ xs) h = below_more (test x) n m (places_from (n + 1) test xs) (omega arith) (places_below (n + 1) m test xs (omega arith))

above_more : (b : Bool) (n m : ℕ) (l : List ℕ) → m ≤ n → AllByRecursion (λ p. m ≤ p) l → AllByRecursion (λ p. m ≤ p) (if b then n ∷ l else l)
above_more true n m l h a = (h, a)
above_more false n m l h a = a

places_above : {X : Type 0} (n m : ℕ) (test : X → Bool) (xs : List X) → m ≤ n → AllByRecursion (λ p. m ≤ p) (places_from n test xs)
places_above n m test [] h = tt
places_above n m test (x ∷ xs) h = above_more (test x) n m (places_from (n + 1) test xs) h (places_above (n + 1) m test xs (omega arith))

-- ---- two tests of which at most one passes

less_true : (x y : ℕ) → x < y → nat_lt x y ≡ true
less_true x y h = grind (arith, nat_tests)

less_false : (x y : ℕ) → y ≤ x → nat_lt x y ≡ false
less_false x y h = grind (arith, nat_tests)

first_before : (n : ℕ) (rest : List ℕ → List ℕ) (ys : List ℕ) → AllByRecursion (λ p. n + 1 ≤ p) ys → before_place n rest ys ≡ n ∷ rest ys
first_before n rest [] a = refl
first_before n rest (y ∷ ys) a = ap (λ (b : Bool). if b then n ∷ rest (y ∷ ys) else y ∷ before_place n rest ys) (less_true n y (omega (arith, a.0)))

first_behind : (n : ℕ) (xs ys : List ℕ) → AllByRecursion (λ p. n + 1 ≤ p) xs → merged_places xs (n ∷ ys) ≡ n ∷ merged_places xs ys
first_behind n [] ys a = refl
first_behind n (x ∷ xs) ys a = ap (λ (b : Bool). if b then x ∷ merged_places xs (n ∷ ys) else n ∷ before_place x (merged_places xs) ys) (less_false x n (omega (arith, a.0)))

merge_step : (b c : Bool) (n : ℕ) (p q r : List ℕ) → (b ≡ true → c ≡ false) → AllByRecursion (λ k. n + 1 ≤ k) p → AllByRecursion (λ k. n + 1 ≤ k) q → merged_places p q ≡ r → merged_places (if b then n ∷ p else p) (if c then n ∷ q else q) ≡ (if b || c then n ∷ r else r)
merge_step true true n p q r h s t e = absurd (let z = h refl in cc)
merge_step true false n p q r h s t e = first_before n (merged_places p) q t ∙ ap (λ (l : List ℕ). n ∷ l) e
merge_step false true n p q r h s t e = first_behind n p q s ∙ ap (λ (l : List ℕ). n ∷ l) e
merge_step false false n p q r h s t e = e

pub merged_is : {X : Type 0} (n : ℕ) (p q : X → Bool) (xs : List X) → ((x : X) → p x ≡ true → q x ≡ false) → merged_places (places_from n p xs) (places_from n q xs) ≡ places_from n (λ x. p x || q x) xs
merged_is n p q [] apart = refl
merged_is n p q (x ∷ xs) apart =
    merge_step (p x) (q x) n (places_from (n + 1) p xs) (places_from (n + 1) q xs) (places_from (n + 1) (λ y. p y || q y) xs) (apart x)
    (places_above (n + 1) (n + 1) p xs (omega arith)) (places_above (n + 1) (n + 1) q xs (omega arith)) (merged_is (n + 1) p q xs apart)

-- one place more of two lists that are merged
pub merge_more : (out near loose : List ℕ) (place : ℕ) (ps qs : List ℕ) (whole : List ℕ) → out ++ merged_places near loose ≡ whole → merged_places near loose ≡ place ∷ merged_places ps qs → (out ++ place ∷ []) ++ merged_places ps qs ≡ whole
merge_more out near loose place ps qs whole e f = append_assoc out (place ∷ []) (merged_places ps qs) ∙ (ap (λ (l : List ℕ). out ++ l) (sym f) ∙ e)

pub merge_none : (out near loose whole : List ℕ) → out ++ merged_places near loose ≡ whole → merged_places near loose ≡ [] → out ≡ whole
merge_none out near loose whole e f = sym (append-nil out) ∙ (ap (λ (l : List ℕ). out ++ l) (sym f) ∙ e)

nothing_left : (near loose : List ℕ) → length near + length loose ≡ 0 → merged_places near loose ≡ []
nothing_left [] [] h = refl
nothing_left [] (y ∷ ys) h = absurd (omega arith)
nothing_left (x ∷ xs) loose h = absurd (omega arith)

pub merge_ends : (out near loose whole : List ℕ) → out ++ merged_places near loose ≡ whole → length near + length loose ≡ 0 → out ≡ whole
merge_ends out near loose whole e h = merge_none out near loose whole e (nothing_left near loose h)

-- ---- the items at the places

drop_head : (rows : List Cells) (n : ℕ) (x : Cells) (xs : List Cells) → drop n rows ≡ x ∷ xs → slice_get rows n ≡ Some x
drop_head [] zero x xs e = absurd (cc)
drop_head [] (suc n) x xs e = absurd (cc)
drop_head (r ∷ rs) zero x xs e = let f : r ≡ x = cc in ap (λ (c : Cells). Some c) f
drop_head (r ∷ rs) (suc n) x xs e = drop_head rs n x xs e

drop_tail : (rows : List Cells) (n : ℕ) (x : Cells) (xs : List Cells) → drop n rows ≡ x ∷ xs → drop (suc n) rows ≡ xs
drop_tail [] zero x xs e = absurd (cc)
drop_tail [] (suc n) x xs e = absurd (cc)
drop_tail (r ∷ rs) zero x xs e = cc
drop_tail (r ∷ rs) (suc n) x xs e = drop_tail rs n x xs e

at_step : (rows : List Cells) (b : Bool) (n : ℕ) (x : Cells) (ps : List ℕ) (xs : List Cells) → slice_get rows n ≡ Some x → rows_at rows ps ≡ xs → rows_at rows (if b then n ∷ ps else ps) ≡ cond b (x ∷ xs) xs
at_step rows true n x ps xs e f = ap (λ (o : Option Cells). option_to_list o ++ rows_at rows ps) e ∙ ap (λ (l : List Cells). x ∷ l) f
at_step rows false n x ps xs e f = f

pub rows_at_places : (rows : List Cells) (test : Cells → Bool) (n : ℕ) (xs : List Cells) → drop n rows ≡ xs → rows_at rows (places_from n test xs) ≡ filter test xs
rows_at_places rows test n [] e = refl
rows_at_places rows test n (x ∷ xs) e =
    at_step rows (test x) n x (places_from (n + 1) test xs) (filter test xs) (drop_head rows n x xs e)
    (rows_at_places rows test (n + 1) xs (ap (λ (k : ℕ). drop k rows) (add-one n) ∙ drop_tail rows n x xs e))

-- Places of the items that pass a test: one item more, two lists, and the items at places.
use Rattle.std.proofs.Common.{ℕ, zero, suc, ◌≡◌, ◌+◌, Bool, true, false, cond, List, [], ◌∷◌, ◌++◌, Option, Some, refl, ◌∙◌, ap, length, drop, add-one, arith}
use Rattle.std.specs.Prelude.{if◌then◌else◌, slice_get}
use Rattle.growing_graph.specs.Places.{places_from, passes, kept_at}

lead : (b : Bool) (n : ℕ) (p q r : List ℕ) → p ≡ q ++ r → (if b then n ∷ p else p) ≡ (if b then n ∷ q else q) ++ r
lead true n p q r e = ap (λ (l : List ℕ). n ∷ l) e
lead false n p q r e = e

-- the places in two lists, one behind the other
pub places_append : {X : Type 0} (n m : ℕ) (test : X → Bool) (xs ys : List X) → m ≡ n + length xs → places_from n test (xs ++ ys) ≡ places_from n test xs ++ places_from m test ys
places_append n m test [] ys e = let s : n ≡ m = omega arith in ap (λ (k : ℕ). places_from k test ys) s
places_append n m test (x ∷ xs) ys e = lead (test x) n (places_from (n + 1) test (xs ++ ys)) (places_from (n + 1) test xs) (places_from m test ys) (places_append (n + 1) m test xs ys (omega arith))

-- ---- the items at the places

pub drop_head : {X : Type 0} (rows : List X) (n : ℕ) (x : X) (xs : List X) → drop n rows ≡ x ∷ xs → slice_get rows n ≡ Some x
drop_head [] zero x xs e = absurd (cc)
drop_head [] (suc n) x xs e = absurd (cc)
drop_head {X} (r ∷ rs) zero x xs e = let f : r ≡ x = cc in ap (λ (c : X). Some c) f
drop_head (r ∷ rs) (suc n) x xs e = drop_head rs n x xs e

pub drop_tail : {X : Type 0} (rows : List X) (n : ℕ) (x : X) (xs : List X) → drop n rows ≡ x ∷ xs → drop (suc n) rows ≡ xs
drop_tail [] zero x xs e = absurd (cc)
drop_tail [] (suc n) x xs e = absurd (cc)
drop_tail (r ∷ rs) zero x xs e = cc
drop_tail (r ∷ rs) (suc n) x xs e = drop_tail rs n x xs e

kept_step : {X : Type 0} (test : X → Bool) (rows : List X) (b c : Bool) (n : ℕ) (x : X) (ps qs : List ℕ) → slice_get rows n ≡ Some x → test x ≡ c → (c ≡ true → b ≡ true) → kept_at test rows ps ≡ qs → kept_at test rows (if b then n ∷ ps else ps) ≡ (if c then n ∷ qs else qs)
kept_step {X} test rows true c n x ps qs at e h f =
    ap (λ (o : Option X). cond (passes test o) (n ∷ kept_at test rows ps) (kept_at test rows ps)) at ∙ (ap (λ (t : Bool). cond t (n ∷ kept_at test rows ps) (kept_at test rows ps)) e ∙ last c f)
  where
    last : (t : Bool) → kept_at test rows ps ≡ qs → cond t (n ∷ kept_at test rows ps) (kept_at test rows ps) ≡ (if t then n ∷ qs else qs)
    last true g = ap (λ (l : List ℕ). n ∷ l) g
    last false g = g
kept_step test rows false true n x ps qs at e h f = absurd (let z = h refl in cc)
kept_step test rows false false n x ps qs at e h f = f

-- of the places of a weaker test those are kept that pass the test
pub kept_places : {X : Type 0} (test weak : X → Bool) (rows : List X) (n : ℕ) (xs ys : List X) → ((x : X) → test x ≡ true → weak x ≡ true) → drop n rows ≡ xs ++ ys → kept_at test rows (places_from n weak xs) ≡ places_from n test xs
kept_places test weak rows n [] ys h e = refl
kept_places {X} test weak rows n (x ∷ xs) ys h e =
    kept_step test rows (weak x) (test x) n x (places_from (n + 1) weak xs) (places_from (n + 1) test xs) (drop_head rows n x (xs ++ ys) e) refl (h x)
    (kept_places test weak rows (n + 1) xs ys h (ap (λ (k : ℕ). drop k rows) (add-one n) ∙ drop_tail rows n x (xs ++ ys) e))

-- The digits after a point, one at a time.
use Rattle.std.proofs.Common.{◌≡◌, ◌∙◌, ℕ, zero, suc, ◌+◌, ◌*◌, ◌/◌, ◌%◌, ◌^◌, ◌<◌, ◌≤◌, Bool, true, false, ◌&&◌, ◌==◌, List, [], ◌∷◌, ◌++◌, append_assoc, not, ◌-◌, ⊎_elim, refl, ap, sym, arith}
use Rattle.std.specs.List.{list_all}
use Rattle.std.proofs.Math.Nat.{pow-suc, mod-one}
use Rattle.std.proofs.lemmas.Bool.{false≢true}
use Rattle.std.proofs.lemmas.Nat.{mod-mul-add, mul-add-lt, mul-le, div-add-mod', mod_below}
use Rattle.std.proofs.lemmas.Bool.{cases_lt}
use Rattle.std.proofs.lemmas.Bool.Decides.{nat_tests}
use Rattle.expr_eval.specs.Written.{last_digits, without_zeros, after_point}

pub ten_pos : (k : ℕ) → 0 < 10 ^ k
ten_pos zero = omega arith
ten_pos (suc k) = omega (arith, pow-suc 10 k, ten_pos k)

pub last_digits-suc : (k n : ℕ) → last_digits (suc k) n ≡ (48 + n / 10 ^ k % 10) ∷ last_digits k n
unfolding last_digits
last_digits-suc k n = refl

last_digits-zero : (n : ℕ) → last_digits 0 n ≡ []
unfolding last_digits
last_digits-zero n = refl

-- the last digits of a number, from its last digits but for the first of them
mod_split : (n t : ℕ) → 0 < t → n % (t * 10) ≡ (n / t % 10) * t + n % t
mod_split n t pos =
    let d = n / t in
    let r = n % t in
    let small : r < t = mod_below n t pos in
    let high : d / 10 * 10 + d % 10 ≡ d = div-add-mod' d 10 in
    let tens : (d / 10 * 10 + d % 10) * t ≡ d * t = ap (λ m. m * t) high in
    let whole : d * t + r ≡ n = div-add-mod' n t in
    let split : n ≡ d / 10 * (t * 10) + (d % 10 * t + r) = omega arith in
    let below : d % 10 * t + r < t * 10 = mul-add-lt (d % 10) t r 10 (mod_below d 10 (omega arith)) small in
    ap (λ m. m % (t * 10)) split ∙ mod-mul-add (d / 10) (t * 10) (d % 10 * t + r) below

zero_sum : (e t r : ℕ) → 0 < t → (e * t + r == 0) ≡ ((48 + e == 48) && (r == 0))
zero_sum e t r pos = ⊎_elim
    (λ (above : 0 < e). let large : 1 * 1 ≤ e * t = mul-le 1 1 e t (omega arith) pos in grind (arith, nat_tests))
    (λ (le : e ≤ 0). let same : e ≡ 0 = omega arith in rw same (grind (arith, nat_tests)))
    (cases_lt 0 e)

zeros : (k n : ℕ) → list_all (λ c. c == 48) (last_digits k n) ≡ (n % 10 ^ k == 0)
zeros zero n = ap (list_all (λ c. c == 48)) (last_digits-zero n) ∙ grind (arith, nat_tests)
zeros (suc k) n =
    ap (list_all (λ c. c == 48)) (last_digits-suc k n)
    ∙ ap (λ r. (48 + n / 10 ^ k % 10 == 48) && r) (zeros k n)
    ∙ sym (zero_sum (n / 10 ^ k % 10) (10 ^ k) (n % 10 ^ k) (ten_pos k))
    ∙ ap (λ m. m == 0) (sym (mod_split n (10 ^ k) (ten_pos k)))
    ∙ ap (λ m. n % m == 0) (sym (pow-suc 10 k))

-- a digit more where something is left, and none where nothing is
pub more_digits : (k n : ℕ) → (n % 10 ^ suc k == 0) ≡ false → without_zeros (last_digits (suc k) n) ≡ (48 + n / 10 ^ k % 10) ∷ without_zeros (last_digits k n)
more_digits k n left =
    let some : list_all (λ c. c == 48) ((48 + n / 10 ^ k % 10) ∷ last_digits k n) ≡ false = ap (list_all (λ c. c == 48)) (sym (last_digits-suc k n)) ∙ zeros (suc k) n ∙ left in
    ap without_zeros (last_digits-suc k n) ∙ rw some refl

all_zeros : (ds : List ℕ) → list_all (λ c. c == 48) ds ≡ true → without_zeros ds ≡ []
all_zeros [] e = refl
all_zeros (d ∷ ds) e = rw e refl

pub no_digits : (k n : ℕ) → (n % 10 ^ k == 0) ≡ true → without_zeros (last_digits k n) ≡ []
no_digits k n none = all_zeros (last_digits k n) (zeros k n ∙ none)

pub first_digit : (n : ℕ) → after_point (last_digits 18 n) ≡ (48 + n / 10 ^ 17 % 10) ∷ without_zeros (last_digits 17 n)
first_digit n = ap after_point (last_digits-suc 17 n)

-- the same, from the test
pub left_positive : (p n : ℕ) → not (n % 10 ^ p == 0) ≡ true → 0 < p
left_positive zero n left = absurd (false≢true (sym (ap not (ap (λ m. m == 0) (mod-one n))) ∙ left))
left_positive (suc k) n left = omega arith

not_true : (b : Bool) → not b ≡ true → b ≡ false
not_true true e = cc
not_true false e = refl

not_false : (b : Bool) → not b ≡ false → b ≡ true
not_false true e = refl
not_false false e = cc

pub digits_left : (p n : ℕ) → not (n % 10 ^ p == 0) ≡ true → without_zeros (last_digits p n) ≡ (48 + n / 10 ^ (p - 1) % 10) ∷ without_zeros (last_digits (p - 1) n)
digits_left zero n left = let none = left_positive zero n left in absurd (omega arith)
digits_left (suc k) n left = let e : suc k - 1 ≡ k = omega arith in rw e (more_digits k n (not_true (n % 10 ^ suc k == 0) left))

pub none_left : (p n : ℕ) → not (n % 10 ^ p == 0) ≡ false → without_zeros (last_digits p n) ≡ []
none_left p n left = no_digits p n (not_false (n % 10 ^ p == 0) left)

-- one item more at the end of a text, before what is still to come
pub one_more : (old new : List ℕ) (d : ℕ) (rest : List ℕ) → new ≡ old ++ d ∷ [] → new ++ rest ≡ old ++ d ∷ rest
one_more old new d rest e = ap (λ s. s ++ rest) e ∙ append_assoc old (d ∷ []) rest

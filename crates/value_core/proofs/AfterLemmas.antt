-- A number that is written on by further digits, one digit at a time.
use Rattle.std.proofs.Common.{◌≡◌, ℕ, ◌+◌, ◌-◌, ◌*◌, ◌^◌, ◌<◌, ◌≤◌, suc, zero, List, [], ◌∷◌, ◌++◌, length, length-append, get_or, drop, ap, ◌∙◌, sym, arith, add-one, drop-cons}
use Rattle.std.proofs.Math.Nat.{pow-suc, mul-le-mul_left}
use Rattle.std.proofs.lemmas.Nat.{pow-add}
use Rattle.value_core.specs.Digits.{whole_of}
use Rattle.value_core.specs.After.{number_after}

pub ten_pos : (k : ℕ) → 0 < 10 ^ k
ten_pos zero = omega arith
ten_pos (suc k) = omega (arith, pow-suc 10 k, ten_pos k)

pub number_after-cons : (n d : ℕ) (ds : List ℕ) → number_after n (d ∷ ds) ≡ number_after (n * 10 + (d - 48)) ds
unfolding number_after
number_after-cons n d ds =
    let more : n * 10 ^ length (d ∷ ds) ≡ n * (10 ^ length ds * 10) = ap (λ m. n * m) (pow-suc 10 (length ds)) in
    omega arith

pub number_after-more : (n : ℕ) (ds : List ℕ) (i : ℕ) → i < length ds → number_after n (drop i ds) ≡ number_after (n * 10 + (get_or ds i 0 - 48)) (drop (i + 1) ds)
number_after-more n ds i h = rw (add-one, drop-cons ds i 0) (number_after-cons n _ _)

pub number_after-ge : (n : ℕ) (ds : List ℕ) → n ≤ number_after n ds
unfolding number_after
number_after-ge n ds = omega (arith, mul-le-mul_left n (ten_pos (length ds)))

pub number_after-none : (n : ℕ) → number_after n [] ≡ n
unfolding number_after
number_after-none n = omega arith

pub number_after-zero : (ds : List ℕ) → number_after 0 ds ≡ whole_of ds
unfolding number_after
number_after-zero ds = omega arith

pub whole_of-append : (xs ys : List ℕ) → whole_of (xs ++ ys) ≡ whole_of xs * 10 ^ length ys + whole_of ys
whole_of-append [] ys = omega arith
whole_of-append (x ∷ xs) ys =
    let e : 10 ^ length (xs ++ ys) ≡ 10 ^ length xs * 10 ^ length ys = ap (λ n. 10 ^ n) (length-append xs ys) ∙ pow-add 10 (length xs) (length ys) in
    rw (e, whole_of-append xs ys) (omega arith)

-- the digits of a number and further digits
pub number_after-append : (xs ys : List ℕ) → number_after (whole_of xs) ys ≡ whole_of (xs ++ ys)
unfolding number_after
number_after-append xs ys = sym (whole_of-append xs ys)

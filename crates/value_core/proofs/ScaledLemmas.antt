-- The number that digits round a point write, from the digits that are kept.
use Rattle.std.proofs.Common.{◌≡◌, ℕ, ◌+◌, ◌-◌, ◌*◌, ◌/◌, ◌%◌, ◌^◌, ◌<◌, ◌≤◌, min, Bool, true, false, cond, ◌==◌, ◌&&◌, nat_lt, List, [], ◌∷◌, ◌++◌, length, length-append, append_assoc, take, drop, Some, None, refl, ap, ◌∙◌, sym, arith, ⊎_elim}
use Rattle.std.specs.Char.{is_ascii_digit}
use Rattle.std.specs.List.{list_all}
use Rattle.std.proofs.Math.Nat.{pow-suc}
use Rattle.std.proofs.lemmas.Nat.{pow-add, mod-mul-add, div-mul-add, mul-add-lt, mul-le}
use Rattle.std.proofs.lemmas.Bool.Decides.{nat_tests}
use Rattle.std.proofs.lemmas.List.{take_all, drop_all, take-append-drop, length-take-le}
use Rattle.std.proofs.lemmas.Bool.{cases_lt}
use Rattle.std.proofs.lemmas.List.Folds.{list_all-append}
use Rattle.value_core.specs.Digits.{whole_of, are_digits}
use Rattle.value_core.specs.Numbers.{scaled_of}
use Rattle.value_core.proofs.AfterLemmas.{ten_pos, whole_of-append}

pub both_true : (a b : Bool) → (a && b) ≡ true → (a ≡ true) × (b ≡ true)
both_true true b e = (refl, e)
both_true false b e = cc

digit_range : (c : ℕ) → is_ascii_digit c ≡ true → (48 ≤ c) × (c ≤ 57)
digit_range c e = grind (arith, nat_tests)

-- digits write less than one more digit would count
pub whole_of-lt : (ds : List ℕ) → list_all is_ascii_digit ds ≡ true → whole_of ds < 10 ^ length ds
whole_of-lt [] e = omega arith
whole_of-lt (d ∷ ds) e =
    let parts = both_true (is_ascii_digit d) (list_all is_ascii_digit ds) e in
    let range = digit_range d parts.0 in
    let rest = whole_of-lt ds parts.1 in
    let more : 10 ^ length (d ∷ ds) ≡ 10 ^ length ds * 10 = pow-suc 10 (length ds) in
    omega (arith, mul-add-lt (d - 48) (10 ^ length ds) (whole_of ds) 10 (omega arith) rest)

-- one more digit in front leaves 0 exactly where it is 0
zero_in_front : (d t w : ℕ) → 48 ≤ d → 0 < t → ((d - 48) * t + w == 0) ≡ ((d == 48) && (w == 0))
zero_in_front d t w h pos = ⊎_elim
    (λ (above : 48 < d). let large : 1 * 1 ≤ (d - 48) * t = mul-le 1 1 (d - 48) t (omega arith) pos in grind (arith, nat_tests))
    (λ (le : d ≤ 48). let same : d ≡ 48 = omega arith in rw same (grind (arith, nat_tests)))
    (cases_lt 48 d)

-- digits write 0 exactly where each is 0
pub whole_of-zeros : (ds : List ℕ) → list_all is_ascii_digit ds ≡ true → (whole_of ds == 0) ≡ list_all (λ c. c == 48) ds
whole_of-zeros [] e = refl
whole_of-zeros (d ∷ ds) e =
    let parts = both_true (is_ascii_digit d) (list_all is_ascii_digit ds) e in
    let range = digit_range d parts.0 in
    zero_in_front d (10 ^ length ds) (whole_of ds) range.0 (ten_pos (length ds)) ∙ ap (λ r. (d == 48) && r) (whole_of-zeros ds parts.1)

ten_split : (i j k : ℕ) → i + j ≡ k → 10 ^ k ≡ 10 ^ i * 10 ^ j
ten_split i j k e = ap (λ n. 10 ^ n) (sym e) ∙ pow-add 10 i j

-- where at most 18 digits stand after the point
scaled_of-short : (front back : List ℕ) → length back ≤ 18 → scaled_of front back ≡ Some (whole_of (front ++ back) * 10 ^ (18 - length back))
scaled_of-short front back h =
    let places = length back in
    let n = whole_of (front ++ back) in
    let ten = ten_pos places in
    let split : 10 ^ 18 ≡ 10 ^ (18 - places) * 10 ^ places = ten_split (18 - places) places 18 (omega arith) in
    let whole : n * 10 ^ 18 ≡ n * 10 ^ (18 - places) * 10 ^ places + 0 = ap (λ m. n * m) split ∙ omega arith in
    let none : n * 10 ^ 18 % 10 ^ places ≡ 0 = ap (λ m. m % 10 ^ places) whole ∙ mod-mul-add (n * 10 ^ (18 - places)) (10 ^ places) 0 ten in
    let all : n * 10 ^ 18 / 10 ^ places ≡ n * 10 ^ (18 - places) = ap (λ m. m / 10 ^ places) whole ∙ div-mul-add (n * 10 ^ (18 - places)) (10 ^ places) 0 ten in
    rw (none, all) refl

-- where at least 18 do: those past the 18th must be 0
scaled_of-long : (front kept rest : List ℕ) → length kept ≡ 18 → list_all is_ascii_digit rest ≡ true
    → scaled_of front (kept ++ rest) ≡ cond (list_all (λ c. c == 48) rest) (Some (whole_of (front ++ kept))) None
scaled_of-long front kept rest h digits =
    let m = length rest in
    let n = whole_of (front ++ kept) in
    let r = whole_of rest in
    let unit = 10 ^ m * 10 ^ 18 in
    let places : 10 ^ length (kept ++ rest) ≡ unit = ten_split m 18 (length (kept ++ rest)) (omega (arith, length-append kept rest)) in
    let written : whole_of (front ++ (kept ++ rest)) ≡ n * 10 ^ m + r = ap whole_of (sym (append_assoc front kept rest)) ∙ whole_of-append (front ++ kept) rest in
    let parts : whole_of (front ++ (kept ++ rest)) * 10 ^ 18 ≡ n * unit + r * 10 ^ 18 = ap (λ w. w * 10 ^ 18) written ∙ omega arith in
    let small : r * 10 ^ 18 < unit = omega (arith, whole_of-lt rest digits) in
    let left : whole_of (front ++ (kept ++ rest)) * 10 ^ 18 % 10 ^ length (kept ++ rest) ≡ r * 10 ^ 18 = rw (parts, places) (mod-mul-add n unit (r * 10 ^ 18) small) in
    let quotient : whole_of (front ++ (kept ++ rest)) * 10 ^ 18 / 10 ^ length (kept ++ rest) ≡ n = rw (parts, places) (div-mul-add n unit (r * 10 ^ 18) small) in
    let zero_left : (r * 10 ^ 18 == 0) ≡ (r == 0) = grind (arith, nat_tests) in
    rw (left, quotient, zero_left, whole_of-zeros rest digits) refl

-- the digits up to the 18th after the point decide, where those past it are 0
pub scaled_of-kept : (front back : List ℕ) (k : ℕ) → k ≡ min (length back) 18 → list_all is_ascii_digit back ≡ true
    → scaled_of front back ≡ cond (list_all (λ c. c == 48) (drop k back)) (Some (whole_of (front ++ take k back) * 10 ^ (18 - k))) None
scaled_of-kept front back k e digits = ⊎_elim
    (λ (short : length back < 18).
    let all : k ≡ length back = omega arith in
    rw (all, take_all (length back) back (omega arith), drop_all (length back) back (omega arith)) (scaled_of-short front back (omega arith)))
    (λ (long : 18 ≤ length back).
    let all : k ≡ 18 = omega arith in
    let split : take 18 back ++ drop 18 back ≡ back = take-append-drop 18 back in
    let rest : list_all is_ascii_digit (drop 18 back) ≡ true =
    (both_true (list_all is_ascii_digit (take 18 back)) (list_all is_ascii_digit (drop 18 back))
    (sym (list_all-append is_ascii_digit (take 18 back) (drop 18 back)) ∙ ap (list_all is_ascii_digit) split ∙ digits)).1 in
    let answer = scaled_of-long front (take 18 back) (drop 18 back) (length-take-le 18 back long) rest in
    let written = whole_of (front ++ take 18 back) in
    let once : written ≡ written * 10 ^ (18 - 18) = omega arith in
    rw all (ap (scaled_of front) (sym split) ∙ answer ∙ ap (λ n. cond (list_all (λ c. c == 48) (drop 18 back)) (Some n) None) once))
    (cases_lt (length back) 18)

-- where the digits past the 18th are 0, and where they are not
pub scaled_of-whole : (front back : List ℕ) (k : ℕ) → k ≡ min (length back) 18 → list_all is_ascii_digit back ≡ true → list_all (λ c. c == 48) (drop k back) ≡ true
    → scaled_of front back ≡ Some (whole_of (front ++ take k back) * 10 ^ (18 - length (take k back)))
scaled_of-whole front back k e digits zeros =
    let within : k ≤ length back = omega arith in
    scaled_of-kept front back k e digits ∙ rw (zeros, length-take-le k back within) refl

pub scaled_of-cut : (front back : List ℕ) (k : ℕ) → k ≡ min (length back) 18 → list_all is_ascii_digit back ≡ true → list_all (λ c. c == 48) (drop k back) ≡ false → scaled_of front back ≡ None
scaled_of-cut front back k e digits zeros = scaled_of-kept front back k e digits ∙ rw zeros refl

-- the digits after the point are digits
pub back_digits : (front back : List ℕ) → are_digits front back ≡ true → list_all is_ascii_digit back ≡ true
back_digits front back e =
    (both_true (list_all is_ascii_digit front) (list_all is_ascii_digit back)
    (both_true (nat_lt 0 (length front + length back)) (list_all is_ascii_digit front && list_all is_ascii_digit back) e).1).1

-- a product of a number past the limit
pub past_limit : (n t : ℕ) → (n < 2 ^ 128 → ⊥) → 0 < t → nat_lt (n * t) (2 ^ 128) ≡ false
past_limit n t above pos = ⊎_elim
    (λ (h : n < 2 ^ 128). absurd (above h))
    (λ (h : 2 ^ 128 ≤ n). let larger : n * 1 ≤ n * t = mul-le n 1 n t (omega arith) pos in grind (arith, nat_tests))
    (cases_lt n (2 ^ 128))

-- The digits of a written number read back: before the point, after it, and without the zeros at the end.
use Rattle.std.proofs.Common.{◌≡◌, ℕ, zero, suc, ◌+◌, ◌-◌, ◌*◌, ◌/◌, ◌%◌, ◌^◌, ◌<◌, ◌≤◌, ◌==◌, true, List, [], ◌∷◌, ◌++◌, length, length-append, inl, inr, refl, sym, ap, ◌∙◌, arith}
use Rattle.std.specs.Prelude.{decimal}
use Rattle.std.specs.Char.{is_ascii_digit}
use Rattle.std.specs.List.{list_all}
use Rattle.std.proofs.Math.Nat.{pow-suc, mod-one}
use Rattle.std.proofs.Math.Arith.{mod-mul}
use Rattle.std.proofs.lemmas.Bool.{and_from, and_parts, cases_Bool}
use Rattle.std.proofs.lemmas.Bool.Decides.{nat_tests}
use Rattle.std.proofs.lemmas.Fmt.{decimal_by_steps_wide}
use Rattle.std.proofs.lemmas.Nat.{pow-add, div-add-mod'}
use Rattle.std.proofs.lemmas.List.Folds.{list_all-append}
use Rattle.value_core.specs.Digits.{whole_of}
use Rattle.value_core.proofs.AfterLemmas.{ten_pos, whole_of-append}
use Rattle.expr_eval.specs.Written.{last_digits, without_zeros, after_point}

-- digits that write the number
abbrev Writes : ℕ → List ℕ → Type 0
Writes n ds = (whole_of ds ≡ n) × (list_all is_ascii_digit ds ≡ true)

digit_glyph : (n : ℕ) → n < 10 → is_ascii_digit (48 + n) ≡ true
digit_glyph n small = grind (arith, nat_tests)

-- ---- before the point

-- the same, and there is one digit at least
abbrev IsWritten : ℕ → List ℕ → Type 0
IsWritten n ds = Writes n ds × (0 < length ds)

one_digit : (n : ℕ) → n < 10 → IsWritten n ((48 + n) ∷ [])
one_digit n small = ((omega arith, and_from (is_ascii_digit (48 + n)) true (digit_glyph n small) refl), omega arith)

digit_more : (n : ℕ) (ds : List ℕ) → 10 ≤ n → IsWritten (n / 10) ds → IsWritten n (ds ++ ((48 + n % 10) ∷ []))
digit_more n ds large front =
    let last = 48 + n % 10 in
    let digits = list_all-append is_ascii_digit ds (last ∷ []) ∙ and_from (list_all is_ascii_digit ds) (list_all is_ascii_digit (last ∷ [])) front.0.1 (and_from (is_ascii_digit last) true (digit_glyph (n % 10) (omega arith)) refl) in
    ((whole_of-append ds (last ∷ []) ∙ omega (arith, front.0.0), digits), omega (arith, length-append ds (last ∷ [])))

pub decimal_written : (n : ℕ) → n < 10 ^ 64 → IsWritten n (decimal n)
decimal_written n small = decimal_by_steps_wide IsWritten one_digit digit_more n small

-- ---- after the point

length-last_digits : (k n : ℕ) → length (last_digits k n) ≡ k
unfolding last_digits
length-last_digits zero n = refl
length-last_digits (suc k) n = ap suc (length-last_digits k n)

last_digits_written : (k n : ℕ) → Writes (n % 10 ^ k) (last_digits k n)
unfolding last_digits
last_digits_written zero n = (sym (mod-one n), refl)
last_digits_written (suc k) n =
    let digit = n / 10 ^ k % 10 in
    let rest = last_digits_written k n in
    let places : 10 ^ length (last_digits k n) ≡ 10 ^ k = ap (λ m. 10 ^ m) (length-last_digits k n) in
    let split : n % 10 ^ suc k ≡ digit * 10 ^ k + n % 10 ^ k = ap (λ m. n % m) (pow-suc 10 k ∙ omega arith) ∙ mod-mul n {m = 10} {c = 10 ^ k} (omega arith) (ten_pos k) in
    let same : 48 + digit - 48 ≡ digit = omega arith in
    (rw (same, places, rest.0, split) refl, and_from (is_ascii_digit (48 + digit)) (list_all is_ascii_digit (last_digits k n)) (digit_glyph digit (omega arith)) rest.1)

-- ---- without the zeros at the end

-- fewer digits, which count the same with so many zeros behind them
record Shortens (ds es : List ℕ) : Type 0 where
  pub places : ℕ
  pub fewer : length es + places ≡ length ds
  pub same : whole_of es * 10 ^ places ≡ whole_of ds
  pub digits : list_all is_ascii_digit es ≡ true

-- zeros count nothing
zeros_write : (ds : List ℕ) → list_all (λ c. c == 48) ds ≡ true → whole_of ds ≡ 0
zeros_write [] zeros = refl
zeros_write (d ∷ ds) zeros =
    let parts = and_parts (d == 48) (list_all (λ c. c == 48) ds) zeros in
    let none : d - 48 ≡ 0 = grind (arith, nat_tests) in
    rw (none, zeros_write ds parts.1) (omega arith)

one_kept : (d : ℕ) (ds es : List ℕ) → is_ascii_digit d ≡ true → Shortens ds es → Shortens (d ∷ ds) (d ∷ es)
one_kept d ds es digit s =
    let power : 10 ^ length ds ≡ 10 ^ length es * 10 ^ s.places = ap (λ m. 10 ^ m) (sym s.fewer) ∙ pow-add 10 (length es) s.places in
    record { places = s.places; fewer = omega (arith, s.fewer); same = rw (power, ← s.same) (omega arith); digits = and_from (is_ascii_digit d) (list_all is_ascii_digit es) digit s.digits }

without_zeros_shortens : (ds : List ℕ) → list_all is_ascii_digit ds ≡ true → Shortens ds (without_zeros ds)
without_zeros_shortens [] digits = record { places = 0; fewer = refl; same = refl; digits = refl }
without_zeros_shortens (d ∷ ds) digits =
    let parts = and_parts (is_ascii_digit d) (list_all is_ascii_digit ds) digits in
    elim (cases_Bool (list_all (λ c. c == 48) (d ∷ ds))) [
      | inl zeros ↦ rw zeros (record { places = suc (length ds); fewer = omega arith; same = omega (arith, zeros_write (d ∷ ds) zeros); digits = refl })
      | inr some ↦ rw some (one_kept d ds (without_zeros ds) parts.0 (without_zeros_shortens ds parts.1))
    ]

after_point_shortens : (ds : List ℕ) → list_all is_ascii_digit ds ≡ true → Shortens ds (after_point ds)
after_point_shortens [] digits = record { places = 0; fewer = refl; same = refl; digits = refl }
after_point_shortens (d ∷ ds) digits =
    let parts = and_parts (is_ascii_digit d) (list_all is_ascii_digit ds) digits in
    one_kept d ds (without_zeros ds) parts.0 (without_zeros_shortens ds parts.1)

-- digits before the point, and at most k after it, that write the number in units of 10 ^ -k
pub record IsWhole (k n : ℕ) (front back : List ℕ) : Type 0 where
  pub short : length back ≤ k
  pub digits : list_all is_ascii_digit back ≡ true
  pub value : whole_of (front ++ back) * 10 ^ (k - length back) ≡ n

pub parts_written : (k n : ℕ) (front : List ℕ) → whole_of front ≡ n / 10 ^ k → IsWhole k n front (after_point (last_digits k n))
parts_written k n front is =
    let kept = after_point (last_digits k n) in
    let s = after_point_shortens (last_digits k n) (last_digits_written k n).1 in
    let all : length kept + s.places ≡ k = s.fewer ∙ length-last_digits k n in
    let left : k - length kept ≡ s.places = omega (arith, all) in
    let power : 10 ^ length kept * 10 ^ s.places ≡ 10 ^ k = sym (pow-add 10 (length kept) s.places) ∙ ap (λ m. 10 ^ m) all in
    let behind : whole_of kept * 10 ^ s.places ≡ n % 10 ^ k = s.same ∙ (last_digits_written k n).0 in
    let before : n / 10 ^ k * (10 ^ length kept * 10 ^ s.places) ≡ n / 10 ^ k * 10 ^ k = ap (λ m. n / 10 ^ k * m) power in
    let written : whole_of (front ++ kept) ≡ n / 10 ^ k * 10 ^ length kept + whole_of kept = whole_of-append front kept ∙ ap (λ w. w * 10 ^ length kept + whole_of kept) is in
    record { short = omega (arith, all); digits = s.digits; value = rw (left, written) (omega (arith, before, behind, div-add-mod' n (10 ^ k))) }

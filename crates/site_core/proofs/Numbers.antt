-- The decimal texts of numbers, and the texts that write a number.
use Rattle.std.proofs.Common.{◌≡◌, ℕ, ◌+◌, ◌*◌, ◌-◌, ◌/◌, ◌%◌, ◌^◌, ◌<◌, ◌≤◌, suc, zero, List, [], ◌∷◌, ◌++◌, length, take, get_or, true, false, ◌&&◌, Some, None, min, refl, sym, ap, ◌∙◌, arith, subst}
use Rattle.std.specs.Prelude.{not, ◌==◌, ◌||◌, decimal, slice_index}
use Rattle.std.specs.List.{list_all}
use Rattle.std.specs.Char.{digit_value}
use Rattle.std.specs.Str.Parse.{digits_value}
use Rattle.std.proofs.lemmas.Bool.{and_parts, and_from, or_left, or_right, not_from_false, cond-true}
use Rattle.std.proofs.lemmas.Bool.Decides.{nat_tests}
use Rattle.std.proofs.lemmas.Fmt.{decimal_by_steps, decimal_is_IsNumeral, decimal_digit, decimal_step}
use Rattle.std.proofs.lemmas.Int.Digits.{digits_value_more}
use Rattle.std.proofs.lemmas.List.{take_more, take_all}
use Rattle.std.proofs.lemmas.List.Folds.{list_all-append}
use Rattle.std.proofs.lemmas.Option.{cond_some}
use Rattle.site_core.specs.Capped.{capped_number}
use Rattle.site_core.specs.Fields.{is_digit, is_number, number_of}

-- a text that writes the number, and begins with no zero but that of 0 itself
abbrev Writes : ℕ → List ℕ → Type 0
Writes n ds = (is_number ds ≡ true) × (0 < n → (slice_index ds 0 == 48) ≡ false)

digit_glyph_is : (n : ℕ) → n < 10 → is_digit (48 + n) ≡ true
digit_glyph_is n small = grind (arith, nat_tests)

first_digit : (n : ℕ) → 0 < n → (48 + n == 48) ≡ false
first_digit n positive = grind (arith, nat_tests)

one_digit : (n : ℕ) → n < 10 → Writes n ((48 + n) ∷ [])
one_digit n small = (
  and_from (is_digit (48 + n) && true) (not (48 + n == 48) || true) (and_from (is_digit (48 + n)) true (digit_glyph_is n small) refl) (or_right (not (48 + n == 48)) true refl),
  first_digit n,
)

not_empty : (n : ℕ) → not (suc n == 0) ≡ true
not_empty n = grind (arith, nat_tests)

more_digits : (n : ℕ) (ds : List ℕ) → 10 ≤ n → Writes (n / 10) ds → Writes n (ds ++ ((48 + n % 10) ∷ []))
more_digits n [] large writes = absurd (let h = writes.0 in cc)
more_digits n (x ∷ xs) large writes =
    let last = 48 + n % 10 in
    let ds = x ∷ xs in
    let more = ds ++ (last ∷ []) in
    let outer = and_parts (not (length ds == 0)) (list_all is_digit ds && (not (x == 48) || (length ds == 1))) writes.0 in
    let parts = and_parts (list_all is_digit ds) (not (x == 48) || (length ds == 1)) outer.1 in
    let nonzero : (x == 48) ≡ false = writes.1 (omega arith) in
    let digits : list_all is_digit more ≡ true =
    list_all-append is_digit ds (last ∷ []) ∙ and_from (list_all is_digit ds) (list_all is_digit (last ∷ [])) parts.0 (and_from (is_digit last) true (digit_glyph_is (n % 10) (omega arith)) refl) in (
      and_from (not (length more == 0)) (list_all is_digit more && (not (x == 48) || (length more == 1))) (not_empty (length (xs ++ (last ∷ []))))
          (and_from (list_all is_digit more) (not (x == 48) || (length more == 1)) digits (or_left (not (x == 48)) (length more == 1) (not_from_false (x == 48) nonzero))),
      λ _. nonzero,
    )

decimal_writes : (n : ℕ) → n < 2 ^ 64 → Writes n (decimal n)
decimal_writes n small = decimal_by_steps Writes one_digit more_digits n small

pub number_of-decimal : (n : ℕ) → n < 2 ^ 64 → number_of (decimal n) ≡ Some n
number_of-decimal n small =
    cond-true (is_number (decimal n)) (Some (digits_value 10 (decimal n))) None (decimal_writes n small).0
    ∙ ap Some (decimal_is_IsNumeral n small).1

pub digits-decimal : (n : ℕ) → n < 2 ^ 64 → list_all is_digit (decimal n) ≡ true
digits-decimal n small =
    let ds = decimal n in
    let outer = and_parts (not (length ds == 0)) (list_all is_digit ds && (not (slice_index ds 0 == 48) || (length ds == 1))) (decimal_writes n small).0 in
    (and_parts (list_all is_digit ds) (not (slice_index ds 0 == 48) || (length ds == 1)) outer.1).0

-- ---- back from the text

pub digit_value_is : (c : ℕ) → is_digit c ≡ true → (digit_value c ≡ c - 48) × (48 ≤ c) × (c ≤ 57)
digit_value_is c digit = grind (arith, nat_tests)

digit_at : (ds : List ℕ) (k : ℕ) → list_all is_digit ds ≡ true → k < length ds → is_digit (get_or ds k 0) ≡ true
digit_at [] k digits within = absurd (omega arith)
digit_at (d ∷ ds) zero digits within = (and_parts (is_digit d) (list_all is_digit ds) digits).0
digit_at (d ∷ ds) (suc k) digits within = digit_at ds k (and_parts (is_digit d) (list_all is_digit ds) digits).1 (omega arith)

no_zero : (x : ℕ) (xs : List ℕ) (n : ℕ) → (x == 48) ≡ false → decimal n ≡ x ∷ xs → 0 < n
no_zero x xs zero nonzero e =
    let zero_text : decimal 0 ≡ 48 ∷ [] = decimal_digit 0 (omega arith) in
    let same : x ≡ 48 = cc in
    absurd (let P : ℕ → Type 0 = λ v. (v == 48) ≡ false in let h = subst P same nonzero in cc)
no_zero x xs (suc n) nonzero e = omega arith

-- behind a first digit that is no zero, each further digit is one of the decimal text
grown : (x : ℕ) (xs : List ℕ) → (x == 48) ≡ false → list_all is_digit (x ∷ xs) ≡ true → (k : ℕ) → k < length (x ∷ xs) → digits_value 10 (take (k + 1) (x ∷ xs)) < 2 ^ 64 → decimal (digits_value 10 (take (k + 1) (x ∷ xs))) ≡ take (k + 1) (x ∷ xs)
grown x xs nonzero digits zero within small =
    let d = digit_value_is x (digit_at (x ∷ xs) 0 digits within) in
    let value : 0 + digit_value x ≡ x - 48 = omega (arith, d.0) in
    ap decimal value ∙ decimal_digit (x - 48) (omega (arith, d.1, d.2)) ∙ ap (λ c. c ∷ []) (omega (arith, d.1))
grown x xs nonzero digits (suc k) within small =
    let ds = x ∷ xs in
    let front = digits_value 10 (take (suc k) ds) in
    let last = get_or ds (suc k) 0 in
    let d = digit_value_is last (digit_at ds (suc k) digits within) in
    let value : digits_value 10 (take (suc k + 1) ds) ≡ front * 10 + (last - 48) = digits_value_more 10 ds (suc k) within ∙ ap (λ v. front * 10 + v) d.0 in
    let one_more : k + 1 ≡ suc k = omega arith in
    let P : ℕ → Type 0 = λ n. digits_value 10 (take n ds) < 2 ^ 64 → decimal (digits_value 10 (take n ds)) ≡ take n ds in
    let before : decimal front ≡ take (suc k) ds = subst P one_more (grown x xs nonzero digits k (omega arith)) (omega (arith, value)) in
    let positive : 0 < front = no_zero x (take k xs) front nonzero before in
    let whole = front * 10 + (last - 48) in
    let step = decimal_step whole (omega (arith, positive)) (omega (arith, value)) in
    let tens : whole / 10 ≡ front = omega (arith, d.1, d.2) in
    let ones : 48 + whole % 10 ≡ last = omega (arith, d.1, d.2) in
    ap decimal value ∙ step ∙ ap (λ n. decimal n ++ ((48 + whole % 10) ∷ [])) tens ∙ ap (λ c. decimal front ++ (c ∷ [])) ones
    ∙ ap (λ bs. bs ++ (last ∷ [])) before ∙ sym (take_more ds (suc k) 0 within)

canonical : (x : ℕ) (xs : List ℕ) → list_all is_digit (x ∷ xs) ≡ true → (not (x == 48) || (length (x ∷ xs) == 1)) ≡ true → digits_value 10 (x ∷ xs) < 2 ^ 64 → decimal (digits_value 10 (x ∷ xs)) ≡ x ∷ xs
canonical x [] digits form small =
    let d = digit_value_is x (digit_at (x ∷ []) 0 digits (omega arith)) in
    let value : 0 + digit_value x ≡ x - 48 = omega (arith, d.0) in
    ap decimal value ∙ decimal_digit (x - 48) (omega (arith, d.1, d.2)) ∙ ap (λ c. c ∷ []) (omega (arith, d.1))
canonical x (y ∷ xs) digits form small =
    let ds = x ∷ y ∷ xs in
    let one : (length ds == 1) ≡ false = grind (arith, nat_tests) in
    let nonzero : (x == 48) ≡ false = grind (arith, nat_tests, form, one) in
    let all : take (suc (length xs) + 1) ds ≡ ds = take_all (suc (length xs) + 1) ds (omega arith) in
    let P : List ℕ → Type 0 = λ bs. digits_value 10 bs < 2 ^ 64 → decimal (digits_value 10 bs) ≡ bs in
    subst P all (grown x (y ∷ xs) nonzero digits (suc (length xs)) (omega arith)) small

-- a text that writes a number is its decimal text
pub decimal-number : (ds : List ℕ) (n : ℕ) → number_of ds ≡ Some n → n < 2 ^ 64 → decimal n ≡ ds
decimal-number [] n writes small = absurd (let h = writes in cc)
decimal-number (x ∷ xs) n writes small =
    let ds = x ∷ xs in
    let found = cond_some (is_number ds) (digits_value 10 ds) n writes in
    let outer = and_parts (not (length ds == 0)) (list_all is_digit ds && (not (x == 48) || (length ds == 1))) found.0 in
    let parts = and_parts (list_all is_digit ds) (not (x == 48) || (length ds == 1)) outer.1 in
    ap decimal (sym found.1) ∙ canonical x xs parts.0 parts.1 (omega (arith, found.1))

-- one digit more of a number as the code holds it
pub capped_more : (ds : List ℕ) (i value next : ℕ) → list_all is_digit ds ≡ true → i < length ds → value ≡ capped_number (digits_value 10 (take i ds)) → next ≡ min (min (value * 10) (2 ^ 64 - 1) + (get_or ds i 0 - 48)) (2 ^ 64 - 1) → next ≡ capped_number (digits_value 10 (take (i + 1) ds))
capped_more ds i value next digits within so_far step =
    let d = digit_value_is (get_or ds i 0) (digit_at ds i digits within) in
    let more = digits_value_more 10 ds i within in
    omega (arith, d.0, more, so_far, step)

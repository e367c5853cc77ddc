-- A written number reads back: its sign, the digits round its point, and so its value.
use Rattle.std.proofs.Common.{◌≡◌, ℕ, ◌+◌, ◌-◌, ◌*◌, ◌/◌, ◌^◌, ◌<◌, ◌≤◌, ◌==◌, Bool, true, false, ◌&&◌, List, [], ◌∷◌, ◌++◌, length, take, drop, Some, None, refl, sym, ap, subst, ◌∙◌, append-nil, append_assoc, length-append, arith}
use Rattle.std.specs.Prelude.{ℤ, pos, negsuc, unsigned_abs, decimal, nat_lt}
use Rattle.std.specs.Char.{is_ascii_digit}
use Rattle.std.specs.List.{list_all, position_or_len}
use Rattle.std.proofs.lemmas.Bool.{and_from, and_parts, lt-ltb}
use Rattle.std.proofs.lemmas.Bool.Decides.{nat_tests}
use Rattle.std.proofs.lemmas.List.{take_all, drop_all, take_at, drop_at}
use Rattle.value_core.specs.declared.numbers.Number.{Number}
use Rattle.value_core.specs.Digits.{whole_of, are_digits, has_minus, unsigned, front_of, back_of, signed}
use Rattle.value_core.specs.Numbers.{fits, scaled_of, number_from, integer_number, decimal_number}
use Rattle.value_core.proofs.ScaledLemmas.{scaled_of-whole}
use Rattle.expr_eval.specs.Written.{last_digits, after_point, sign_text, number_text}
use Rattle.definition_laws.proofs.WrittenDigits.{parts_written, decimal_written}

-- ---- the sign, and what stands round the point

-- whether a minus is written
abbrev is_negative : ℤ → Bool
is_negative (pos n) = false
is_negative (negsuc n) = true

digit_is_no_sign : (d : ℕ) → is_ascii_digit d ≡ true → ((d == 45) ≡ false) × ((d == 43) ≡ false) × ((d == 46) ≡ false)
digit_is_no_sign d digit = (grind (arith, nat_tests), grind (arith, nat_tests), grind (arith, nat_tests))

-- a text that begins with a digit has no sign
no_sign : (ds rest : List ℕ) → list_all is_ascii_digit ds ≡ true → 0 < length ds → (has_minus (ds ++ rest) ≡ false) × (unsigned (ds ++ rest) ≡ ds ++ rest)
no_sign [] rest digits some = absurd (omega arith)
no_sign (d ∷ ds) rest digits some =
    let not = digit_is_no_sign d (and_parts (is_ascii_digit d) (list_all is_ascii_digit ds) digits).0 in
    (not.0, rw (not.0, not.1) refl)

-- the sign is read, and what follows it
sign_read : (z : ℤ) (ds rest : List ℕ) → list_all is_ascii_digit ds ≡ true → 0 < length ds → (has_minus (sign_text z ++ (ds ++ rest)) ≡ is_negative z) × (unsigned (sign_text z ++ (ds ++ rest)) ≡ ds ++ rest)
sign_read (pos n) ds rest digits some = no_sign ds rest digits some
sign_read (negsuc n) ds rest digits some = (refl, refl)

-- the point is the first, since digits stand before it
point_place : (front back : List ℕ) → list_all is_ascii_digit front ≡ true → position_or_len (λ c. c == 46) (front ++ 46 ∷ back) ≡ length front
point_place [] back digits = refl
point_place (d ∷ front) back digits =
    let parts = and_parts (is_ascii_digit d) (list_all is_ascii_digit front) digits in
    rw ((digit_is_no_sign d parts.0).2) (omega (arith, point_place front back parts.1))

point_read : (front back : List ℕ) → list_all is_ascii_digit front ≡ true → (front_of (front ++ 46 ∷ back) ≡ front) × (back_of (front ++ 46 ∷ back) ≡ back)
point_read front back digits =
    let text = front ++ 46 ∷ back in
    let place = point_place front back digits in (
      ap (λ i. take i text) place ∙ take_at front (46 ∷ back) (length front) refl,
      ap (λ i. drop (i + 1) text) place ∙ ap (drop (length front + 1)) (sym (append_assoc front (46 ∷ []) back)) ∙ drop_at (front ++ 46 ∷ []) back (length front + 1) (length-append front (46 ∷ [])),
    )

digits_both : (front back : List ℕ) → 0 < length front → list_all is_ascii_digit front ≡ true → list_all is_ascii_digit back ≡ true → are_digits front back ≡ true
digits_both front back some f b =
    and_from (nat_lt 0 (length front + length back)) (list_all is_ascii_digit front && list_all is_ascii_digit back)
    (lt-ltb 0 (length front + length back) (omega arith)) (and_from (list_all is_ascii_digit front) (list_all is_ascii_digit back) f b)

-- ---- the value

-- the size with its sign is the number
signed_size : (z : ℤ) → signed (is_negative z) (unsigned_abs z) ≡ z
signed_size (pos n) = refl
signed_size (negsuc n) = refl

-- it is small enough for the lemmas on `decimal`, which take up to 64 digits
small_size : (z : ℤ) → fits z ≡ true → unsigned_abs z ≤ 2 ^ 127
small_size (pos n) e = grind (arith, nat_tests)
small_size (negsuc n) e = grind (arith, nat_tests)

-- the number from its size
valued : (whole : Bool) (z : ℤ) (front back : List ℕ) → fits z ≡ true → scaled_of front back ≡ Some (unsigned_abs z) → number_from whole (is_negative z) front back ≡ Some (record { scaled = z; whole = whole })
valued whole z front back within is = rw is (rw (signed_size z, within) refl)

-- the size that digits write, where at most 18 stand after the point
scaled_short : (front back : List ℕ) → length back ≤ 18 → list_all is_ascii_digit back ≡ true → scaled_of front back ≡ Some (whole_of (front ++ back) * 10 ^ (18 - length back))
scaled_short front back short digits =
    let zeros : list_all (λ c. c == 48) (drop (length back) back) ≡ true = rw (drop_all (length back) back (omega arith)) refl in
    scaled_of-whole front back (length back) (omega arith) digits zeros ∙ rw (take_all (length back) back (omega arith)) refl

-- ---- both kinds of text

-- where the parts of the text are what was written
integer_by : (z : ℤ) (text ds : List ℕ) → fits z ≡ true → has_minus text ≡ is_negative z → unsigned text ≡ ds → are_digits ds [] ≡ true → scaled_of ds [] ≡ Some (unsigned_abs z)
    → integer_number None None text ≡ Some (record { scaled = z; whole = true })
integer_by z text ds within sign rest digits is = rw (sign, rest, digits) (valued true z ds [] within is)

decimal_by : (z : ℤ) (text front back : List ℕ) → fits z ≡ true → has_minus text ≡ is_negative z → unsigned text ≡ front ++ 46 ∷ back → front_of (front ++ 46 ∷ back) ≡ front → back_of (front ++ 46 ∷ back) ≡ back
    → are_digits front back ≡ true → scaled_of front back ≡ Some (unsigned_abs z) → decimal_number text ≡ Some (record { scaled = z; whole = false })
decimal_by z text front back within sign rest before behind digits is = rw (sign, rest, before, behind, digits) (valued false z front back within is)

-- and the parts of what is written are those
integer_reads : (z : ℤ) (units : ℕ) → fits z ≡ true → unsigned_abs z ≡ units * 10 ^ 18 → integer_number None None (number_text (record { scaled = z; whole = true })) ≡ Some (record { scaled = z; whole = true })
integer_reads z units within is =
    let ds = decimal (unsigned_abs z / 10 ^ 18) in
    let written = decimal_written (unsigned_abs z / 10 ^ 18) (omega (arith, small_size z within)) in
    let read = sign_read z ds [] written.0.1 written.1 in
    let scaled : scaled_of ds [] ≡ Some (unsigned_abs z) = scaled_short ds [] (omega arith) refl ∙ ap Some (ap (λ l. whole_of l * 10 ^ 18) (append-nil ds) ∙ omega (arith, written.0.0)) in
    integer_by z (sign_text z ++ ds) ds within (rw append-nil at read.0) (rw append-nil at read.1) (digits_both ds [] written.1 written.0.1 refl) scaled

decimal_reads : (z : ℤ) → fits z ≡ true → decimal_number (number_text (record { scaled = z; whole = false })) ≡ Some (record { scaled = z; whole = false })
decimal_reads z within =
    let n = unsigned_abs z in
    let front = decimal (n / 10 ^ 18) in
    let back = after_point (last_digits 18 n) in
    let written = decimal_written (n / 10 ^ 18) (omega (arith, small_size z within)) in
    let parts = parts_written 18 n front written.0.0 in
    let text : (sign_text z ++ front) ++ 46 ∷ back ≡ sign_text z ++ (front ++ 46 ∷ back) = append_assoc (sign_text z) front (46 ∷ back) in
    let read = sign_read z front (46 ∷ back) written.0.1 written.1 in
    let point = point_read front back written.0.1 in
    ap decimal_number text
    ∙ decimal_by z (sign_text z ++ (front ++ 46 ∷ back)) front back within read.0 read.1 point.0 point.1 (digits_both front back written.1 written.0.1 parts.digits)
    (scaled_short front back parts.short parts.digits ∙ ap Some parts.value)

-- ---- of a number

pub integer_reads_back : (n : Number) (units : ℕ) → n.whole ≡ true → fits n.scaled ≡ true → unsigned_abs n.scaled ≡ units * 10 ^ 18 → integer_number None None (number_text n) ≡ Some n
integer_reads_back n units whole within is =
    subst (λ (b : Bool). integer_number None None (number_text (record { scaled = n.scaled; whole = b })) ≡ Some (record { scaled = n.scaled; whole = b })) (sym whole) (integer_reads n.scaled units within is)

pub decimal_reads_back : (n : Number) → n.whole ≡ false → fits n.scaled ≡ true → decimal_number (number_text n) ≡ Some n
decimal_reads_back n part within =
    subst (λ (b : Bool). decimal_number (number_text (record { scaled = n.scaled; whole = b })) ≡ Some (record { scaled = n.scaled; whole = b })) (sym part) (decimal_reads n.scaled within)

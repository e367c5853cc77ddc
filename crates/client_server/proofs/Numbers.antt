-- The length that the decimal text of a number states, and the digits of a status.
use Rattle.std.proofs.Common.{◌≡◌, ℕ, ◌+◌, ◌-◌, ◌*◌, ◌/◌, ◌%◌, ◌^◌, ◌<◌, ◌≤◌, true, false, List, [], ◌∷◌, ◌++◌, length, refl, ap, ◌∙◌, arith, append_assoc, append-nil, length-append}
use Rattle.std.specs.Prelude.{Some, None, ◌==◌, ◌||◌, nat_lt, decimal, if◌then◌else◌}
use Rattle.std.specs.List.{list_all}
use Rattle.std.specs.Char.{digit_value}
use Rattle.std.specs.Str.Parse.{digits_value_after}
use Rattle.std.proofs.lemmas.Bool.{and_parts}
use Rattle.std.proofs.lemmas.Bool.Decides.{nat_tests}
use Rattle.std.proofs.lemmas.Fmt.{decimal_is_IsNumeral, decimal_digit, decimal_step, decimal_nonempty}
use Rattle.http_header.specs.FieldValue.{plain_value}
use Rattle.httparse.specs.Grammar.{is_ows}
use Rattle.http_message.specs.Lengths.{comma, trimmed, number_from, number_of, members_from, members, length_of, one_number, all_state}
use Rattle.site_core.specs.Fields.{is_digit}
use Rattle.site_core.proofs.Numbers.{digits-decimal, digit_value_is}
use Rattle.client_server.proofs.Values.{HasBareEnds, trimmed_is, bare_from}

grows : (ds : List ℕ) (n : ℕ) → n ≤ digits_value_after 10 n ds
grows [] n = omega arith
grows (d ∷ ds) n = let later = grows ds (n * 10 + digit_value d) in omega (arith, later)

read_on : (ds : List ℕ) (n : ℕ) → list_all is_digit ds ≡ true → digits_value_after 10 n ds < 2 ^ 64 → number_from n ds ≡ Some (digits_value_after 10 n ds)
read_on [] n digits small = refl
read_on (d ∷ ds) n digits small =
    let parts = and_parts (is_digit d) (list_all is_digit ds) digits in
    let value = digit_value_is d parts.0 in
    let above = grows ds (n * 10 + digit_value d) in
    let same : 10 * n + (d - 48) ≡ n * 10 + digit_value d = omega (arith, value.0) in
    let is_one : (nat_lt d 48 || nat_lt 57 d) ≡ false = let low = value.1 in let high = value.2 in grind (arith, nat_tests) in
    let fits : nat_lt (n * 10 + digit_value d) (2 ^ 64) ≡ true = let below : n * 10 + digit_value d < 2 ^ 64 = omega (arith, above, small) in grind (arith, nat_tests) in
    rw (is_one, same, fits) (read_on ds (n * 10 + digit_value d) parts.1 small)

no_comma : (d : ℕ) → is_digit d ≡ true → (d == comma) ≡ false
no_comma d digit = grind (arith, nat_tests)

one_member : (ds acc : List ℕ) → list_all is_digit ds ≡ true → members_from acc ds ≡ (acc ++ ds) ∷ []
one_member [] acc digits = rw append-nil refl
one_member (d ∷ ds) acc digits =
    let parts = and_parts (is_digit d) (list_all is_digit ds) digits in
    rw (no_comma d parts.0) (one_member ds (acc ++ d ∷ []) parts.1 ∙ ap (λ m. m ∷ []) (append_assoc acc (d ∷ []) ds))

whole_number : (ds : List ℕ) → 0 < length ds → list_all is_digit ds ≡ true → digits_value_after 10 0 ds < 2 ^ 64 → number_of ds ≡ Some (digits_value_after 10 0 ds)
whole_number [] some digits small = absurd (omega arith)
whole_number (d ∷ ds) some digits small = read_on (d ∷ ds) 0 digits small

no_white_space : (d : ℕ) → is_digit d ≡ true → is_ows d ≡ false
no_white_space d digit = grind (arith, nat_tests)

pub decimal_bare : (n : ℕ) → n < 2 ^ 64 → HasBareEnds (decimal n)
decimal_bare n small = bare_from is_digit (decimal n) no_white_space (digits-decimal n small)

the_number : (m : List ℕ) (n : ℕ) → number_of (trimmed m) ≡ Some n → one_number (m ∷ []) ≡ Some n
the_number m n is = ap (λ o. elim o [ None ↦ None | Some k ↦ if all_state k [] then Some k else None ]) is

one_value : (ds : List ℕ) (n : ℕ) → members ds ≡ ds ∷ [] → number_of (trimmed ds) ≡ Some n → length_of (plain_value ds ∷ []) ≡ Some n
one_value ds n one is = ap (λ ms. one_number (ms ++ [])) one ∙ the_number ds n is

-- what a Content-Length of the decimal text states
pub stated : (n : ℕ) → n < 2 ^ 64 → length_of (plain_value (decimal n) ∷ []) ≡ Some n
stated n small =
    let ds = decimal n in
    let digits = digits-decimal n small in
    let value = (decimal_is_IsNumeral n small).1 in
    let fits : digits_value_after 10 0 ds < 2 ^ 64 = omega (arith, value, small) in
    let number : number_of (trimmed ds) ≡ Some n = ap number_of (trimmed_is ds (decimal_bare n small)) ∙ whole_number ds (decimal_nonempty n small) digits fits ∙ ap Some value in
    one_value ds n (one_member ds [] digits) number

-- a status has three digits
pub three_digits : (n : ℕ) → 100 ≤ n → n < 1000 → length (decimal n) ≡ 3
three_digits n low high =
    let last = decimal_step n (omega arith) (omega arith) in
    let middle = decimal_step (n / 10) (omega arith) (omega arith) in
    let first = decimal_digit (n / 10 / 10) (omega arith) in
    omega (arith, ap length last, length-append (decimal (n / 10)) ((48 + n % 10) ∷ []), ap length middle, length-append (decimal (n / 10 / 10)) ((48 + n / 10 % 10) ∷ []), ap length first)

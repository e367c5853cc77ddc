-- The end of the first line of some bytes.
use Rattle.std.proofs.Common.{◌≡◌, ℕ, ◌+◌, ◌<◌, suc, zero, List, [], ◌∷◌, ◌++◌, length, take, drop, get_or, Bool, true, Some, None, refl, sym, ap, append_assoc, inl, inr, ◌∙◌, arith, rules, length-append, nat_lt, subst}
use Rattle.std.specs.Prelude.{not, position}
use Rattle.std.specs.List.{list_all, position_or_len}
use Rattle.std.proofs.lemmas.Bool.{and_parts, and_from, cases_Bool, cond-true, cond-false, cond_below}
use Rattle.std.proofs.lemmas.Bool.Decides.{nat_tests}
use Rattle.std.proofs.lemmas.Option.{cond_some}
use Rattle.std.proofs.lemmas.List.{length-take-le}
use Rattle.std.proofs.lemmas.List.Quantifiers.{position-Some}
use Rattle.std.proofs.Math.Seq.{split_at}
use Rattle.std.specs.Str.{IsAscii, IsUtf8}
use Rattle.std.proofs.lemmas.Str.{IsUtf8-from_ascii}
use Rattle.site_core.specs.Fields.{is_lf, is_visible}

-- no byte of the line ends it
abbrev pub is_plain : List ℕ → Bool
is_plain line = list_all (λ b. not (is_lf b)) line

position_or_len-plain : (line rest : List ℕ) → is_plain line ≡ true → position_or_len is_lf (line ++ 10 ∷ rest) ≡ length line
position_or_len-plain [] rest plain = refl
position_or_len-plain (b ∷ line) rest plain =
    let parts = and_parts (not (is_lf b)) (is_plain line) plain in
    cond-true (not (is_lf b)) (1 + position_or_len is_lf (line ++ 10 ∷ rest)) 0 parts.0
    ∙ (let e = position_or_len-plain line rest parts.1 in omega (arith, e))

pub position-plain : (line rest : List ℕ) → is_plain line ≡ true → position is_lf (line ++ 10 ∷ rest) ≡ Some (length line)
position-plain line rest plain =
    let e = position_or_len-plain line rest plain in
    let within : length line < length (line ++ 10 ∷ rest) = omega (arith, length-append line (10 ∷ rest)) in
    rw e (sym (cond_below (length line) (length (line ++ 10 ∷ rest)) (Some (length line)) None within))

pub take_front : (line rest : List ℕ) → take (length line) (line ++ rest) ≡ line
take_front [] rest = refl
take_front (b ∷ line) rest = ap (λ bs. b ∷ bs) (take_front line rest)

pub drop_front : (line rest : List ℕ) → drop (length line) (line ++ rest) ≡ rest
drop_front [] rest = refl
drop_front (b ∷ line) rest = drop_front line rest

pub drop_line : (line rest : List ℕ) (b : ℕ) → drop (suc (length line)) (line ++ b ∷ rest) ≡ rest
drop_line [] rest b = refl
drop_line (x ∷ line) rest b = drop_line line rest b

-- the bytes are the line, its end, and the rest
pub split_line : (bytes : List ℕ) (n : ℕ) → position is_lf bytes ≡ Some n → (n < length bytes) × (bytes ≡ take n bytes ++ 10 ∷ drop (suc n) bytes)
split_line bytes n found =
    let at = position-Some is_lf bytes n 0 found in
    let lf : get_or bytes n 0 ≡ 10 = search (rules, at.1) in
    (at.0, split_at bytes n 0 at.0 ∙ ap (λ b. take n bytes ++ b ∷ drop (suc n) bytes) lf)

pub plain_front : (bytes : List ℕ) → is_plain (take (position_or_len is_lf bytes) bytes) ≡ true
plain_front [] = refl
plain_front (b ∷ bytes) =
    elim (cases_Bool (not (is_lf b))) [
      | inl holds ↦
          let e : position_or_len is_lf (b ∷ bytes) ≡ suc (position_or_len is_lf bytes) = cond-true (not (is_lf b)) (1 + position_or_len is_lf bytes) 0 holds ∙ omega arith in
          let P : ℕ → Type 0 = λ n. is_plain (take n (b ∷ bytes)) ≡ true in
          subst P (sym e) (and_from (not (is_lf b)) _ holds (plain_front bytes))
      | inr fails ↦
          let P : ℕ → Type 0 = λ n. is_plain (take n (b ∷ bytes)) ≡ true in
          subst P (sym (cond-false (not (is_lf b)) (1 + position_or_len is_lf bytes) 0 fails)) refl
    ]

-- the first line has no end within
pub plain_line : (bytes : List ℕ) (n : ℕ) → position is_lf bytes ≡ Some n → is_plain (take n bytes) ≡ true
plain_line bytes n found =
    let e = cond_some (nat_lt (position_or_len is_lf bytes) (length bytes)) (position_or_len is_lf bytes) n found in
    let P : ℕ → Type 0 = λ n. is_plain (take n bytes) ≡ true in
    subst P e.1 (plain_front bytes)

-- what follows doesn't move the end of the first line
pub position-append : (bytes more : List ℕ) (n : ℕ) → position is_lf bytes ≡ Some n → position is_lf (bytes ++ more) ≡ Some n
position-append bytes more n found =
    let split = split_line bytes n found in
    let line = take n bytes in
    let rest = drop (suc n) bytes in
    let whole : bytes ++ more ≡ line ++ 10 ∷ (rest ++ more) = ap (λ bs. bs ++ more) split.1 ∙ append_assoc line (10 ∷ rest) more in
    let P : List ℕ → Type 0 = λ bs. position is_lf bs ≡ Some n in
    subst P (sym whole) (position-plain line (rest ++ more) (plain_line bytes n found) ∙ ap Some (length-take-le n bytes (omega (arith, split.0))))

visible_ascii : (bytes : List ℕ) → list_all is_visible bytes ≡ true → IsAscii bytes
visible_ascii [] visible i = omega arith
visible_ascii (b ∷ bytes) visible zero = let seen = (and_parts (is_visible b) (list_all is_visible bytes) visible).0 in grind (arith, nat_tests)
visible_ascii (b ∷ bytes) visible (suc i) = visible_ascii bytes (and_parts (is_visible b) (list_all is_visible bytes) visible).1 i

-- visible bytes are text
pub visible_text : (bytes : List ℕ) → list_all is_visible bytes ≡ true → IsUtf8 bytes
visible_text bytes visible = IsUtf8-from_ascii bytes (visible_ascii bytes visible)

-- The state in a chunk's line says the same of the bytes to come as the line's bytes do.
use Rattle.std.proofs.Common.{◌≡◌, ℕ, ◌+◌, ◌-◌, ◌⊎◌, inl, inr, ⊎_elim, ◌*◌, ◌^◌, ◌<◌, ◌≤◌, Bool, true, false, cond, List, [], ◌∷◌, ◌++◌, length, refl, sym, ap, ◌∙◌, arith, append_assoc, length-append}
use Rattle.std.specs.Prelude.{Option, Some, None, nat_le, nat_lt, ◌==◌, ◌||◌, ◌&&◌}
use Rattle.std.proofs.lemmas.Bool.Decides.{nat_tests}
use Rattle.http_message.specs.declared.chunk_line.ChunkLine.{ChunkLine}
use Rattle.http_message.specs.declared.chunk_line.ChunkLine.TheVariants.{Front, Digits, Blanks, Extension, Cr, Bad}
use Rattle.http_message.specs.Chunks.{BodyRead, bad_body, hex_value, size_of, size_from, ends_line, is_crlf, after_line, line_step, ChunkPlace, in_line, chunked, chunked_at}
use Rattle.http_message.specs.LineStates.{size_at, after_size, with_digit, after_digits, next_in_line, size_at_end, lined}

-- where a byte is no CR, no CR LF begins with it
no_crlf : (b : ℕ) (more : List ℕ) → (b == 13) ≡ false → is_crlf (b ∷ more) ≡ false
no_crlf b [] other = refl
no_crlf b (c ∷ []) other = rw other refl
no_crlf b (c ∷ d ∷ more) other = refl

-- LF after a CR ends what is read
not_crlf : (b : ℕ) (more : List ℕ) → (b == 10) ≡ false → is_crlf (13 ∷ b ∷ more) ≡ false
not_crlf b [] other = rw other refl
not_crlf b (c ∷ more) other = refl

is_cr : (b : ℕ) → (b == 13) ≡ true → b ≡ 13
is_cr b same = grind (arith, nat_tests)

-- a byte other than LF behind the digits
after_step : (n b : ℕ) (more : List ℕ) → cond (ends_line (b ∷ more)) (Some n) None ≡ size_at (after_size n b) more
after_step n b more =
    elim (b == 32 || b == 9) as (λ t. (b == 32 || b == 9) ≡ t → cond (ends_line (b ∷ more)) (Some n) None ≡ size_at (after_size n b) more) [
      | true ↦ λ e. rw e refl
      | false ↦ λ e. elim (b == 59) as (λ t. (b == 59) ≡ t → cond (ends_line (b ∷ more)) (Some n) None ≡ size_at (after_size n b) more) [
        | true ↦ λ f. rw (e, f) refl
        | false ↦ λ f. elim (b == 13) as (λ t. (b == 13) ≡ t → cond (ends_line (b ∷ more)) (Some n) None ≡ size_at (after_size n b) more) [
          | true ↦ λ g. rw (e, f, g) (ap (λ c. cond (is_crlf (c ∷ more)) (Some n) None) (is_cr b g))
          | false ↦ λ g. rw (e, f, g, no_crlf b more g) refl
        ] refl
      ] refl
    ] refl

digit_step : (n d : ℕ) (more : List ℕ) → cond (nat_lt (16 * n + d) (2 ^ 64)) (size_from (16 * n + d) more) None ≡ size_at (with_digit n d) more
digit_step n d more =
    elim (nat_lt (16 * n + d) (2 ^ 64)) as (λ t. cond t (size_from (16 * n + d) more) None ≡ size_at (cond t (Digits (16 * n + d)) Bad) more) [ true ↦ refl | false ↦ refl ]

digits_step : (n b : ℕ) (more : List ℕ) → size_from n (b ∷ more) ≡ size_at (after_digits n b) more
digits_step n b more =
    elim (hex_value b) as (λ h. (elim h [
      | Some d ↦ cond (nat_lt (16 * n + d) (2 ^ 64)) (size_from (16 * n + d) more) None
      | None ↦ cond (ends_line (b ∷ more)) (Some n) None
    ]) ≡ size_at (elim h [ None ↦ after_size n b | Some d ↦ with_digit n d ]) more) [
      | Some d ↦ digit_step n d more
      | None ↦ after_step n b more
    ]

and_true : (x y : Bool) → (x && y) ≡ true → (x ≡ true) × (y ≡ true)
and_true true y e = (refl, e)
and_true false y e = absurd (cc)

chosen : {A : Type 0} (b : Bool) (x y z : A) → cond b x y ≡ z → ((b ≡ true) × (x ≡ z)) ⊎ ((b ≡ false) × (y ≡ z))
chosen true x y z e = inl (refl, e)
chosen false x y z e = inr (refl, e)

-- a digit between two bytes
within : (b d low high less : ℕ) → (nat_le low b && nat_le b high) ≡ true → Some (b - less) ≡ Some d → high < less + 16 → d < 16
within b d low high less e f short =
    let both = and_true (nat_le low b) (nat_le b high) e in
    let most : nat_le b high ≡ true = both.1 in
    let same : b - less ≡ d = cc f in
    let top : b ≤ high = grind (arith, nat_tests) in
    omega arith

small_digit : (b d : ℕ) → hex_value b ≡ Some d → d < 16
small_digit b d e =
    ⊎_elim (λ w. within b d 48 57 48 w.0 w.1 (omega arith))
    (λ w. ⊎_elim (λ v. within b d 97 102 87 v.0 v.1 (omega arith))
    (λ v. ⊎_elim (λ u. within b d 65 70 55 u.0 u.1 (omega arith)) (λ u. absurd (cc u.1))
    (chosen (nat_le 65 b && nat_le b 70) (Some (b - 55)) None (Some d) v.1))
    (chosen (nat_le 97 b && nat_le b 102) (Some (b - 87)) (cond (nat_le 65 b && nat_le b 70) (Some (b - 55)) None) (Some d) w.1))
    (chosen (nat_le 48 b && nat_le b 57) (Some (b - 48)) (cond (nat_le 97 b && nat_le b 102) (Some (b - 87)) (cond (nat_le 65 b && nat_le b 70) (Some (b - 55)) None)) (Some d) e)

first_digit : (b d : ℕ) (more : List ℕ) → hex_value b ≡ Some d → size_from 0 (b ∷ more) ≡ size_from d more
first_digit b d more e =
    let zero_more : 16 * 0 + d ≡ d = omega arith in
    let fits : nat_lt d (2 ^ 64) ≡ true = let small = small_digit b d e in grind (arith, nat_tests) in
    ap (λ (h : Option ℕ). elim h [ Some k ↦ cond (nat_lt (16 * 0 + k) (2 ^ 64)) (size_from (16 * 0 + k) more) None | None ↦ cond (ends_line (b ∷ more)) (Some 0) None ]) e
    ∙ ap (λ k. cond (nat_lt k (2 ^ 64)) (size_from k more) None) zero_more
    ∙ ap (λ t. cond t (size_from d more) None) fits

front_step : (b : ℕ) (more : List ℕ) → size_of (b ∷ more) ≡ size_at (next_in_line Front b) more
front_step b more =
    elim (hex_value b) as (λ h. hex_value b ≡ h → (elim h [ Some d ↦ size_from 0 (b ∷ more) | None ↦ None ]) ≡ size_at (elim h [ None ↦ Bad | Some d ↦ Digits d ]) more) [
      | Some d ↦ λ e. first_digit b d more e
      | None ↦ λ e. refl
    ] refl

extension_step : (n b : ℕ) (more : List ℕ) → (b == 10) ≡ false → size_at (Extension n) (b ∷ more) ≡ size_at (next_in_line (Extension n) b) more
extension_step n b more other =
    elim (b == 13) as (λ t. (b == 13) ≡ t → size_at (Extension n) (b ∷ more) ≡ size_at (next_in_line (Extension n) b) more) [
      | true ↦ λ e. rw e (ap (λ c. cond (is_crlf (c ∷ more)) (Some n) None) (is_cr b e))
      | false ↦ λ e. rw (e, other) refl
    ] refl

-- the line gives with a byte other than LF what the next state gives without it
next_step : (line : ChunkLine) (b : ℕ) (more : List ℕ) → (b == 10) ≡ false → size_at line (b ∷ more) ≡ size_at (next_in_line line b) more
next_step Front b more other = front_step b more
next_step (Digits n) b more other = digits_step n b more
next_step (Blanks n) b more other = after_step n b more
next_step (Extension n) b more other = extension_step n b more other
next_step (Cr n) b more other = rw (not_crlf b more other) refl
next_step Bad b more other = refl

end_step : (line : ChunkLine) → size_at line (10 ∷ []) ≡ size_at_end line
end_step Front = refl
end_step (Digits n) = refl
end_step (Blanks n) = refl
end_step (Extension n) = refl
end_step (Cr n) = refl
end_step Bad = refl

-- ---- the body

at_is : (limit : ℕ) (place : Option ChunkPlace) (body more : List ℕ) → (elim place [ None ↦ bad_body | Some p ↦ chunked limit p body more ]) ≡ chunked_at limit place body more
at_is limit None body more = refl
at_is limit (Some p) body more = refl

-- one byte of a line
pub chunked-line : (limit : ℕ) (line : List ℕ) (b : ℕ) (body bs : List ℕ) → chunked limit (in_line line) body (b ∷ bs) ≡ chunked_at limit (line_step line b) body bs
unfolding chunked
chunked-line limit line b body bs = at_is limit (line_step line b) body bs

lined-cons : (limit : ℕ) (state : ChunkLine) (seen b : ℕ) (body bs : List ℕ)
    → lined limit state seen body (b ∷ bs) ≡ cond (b == 10) (chunked_at limit (after_line (size_at_end state)) body bs) (cond (nat_le 1024 (seen + 1)) bad_body (lined limit (next_in_line state b) (seen + 1) body bs))
unfolding lined
lined-cons limit state seen b body bs = refl

no_more : (limit : ℕ) (state : ChunkLine) (line body : List ℕ) → chunked limit (in_line line) body [] ≡ lined limit state (length line) body []
unfolding chunked lined
no_more limit state line body = refl

-- a body in chunks goes on alike from the bytes of a line and from its state
lined_from : (more : List ℕ) (limit : ℕ) (state : ChunkLine) (line body : List ℕ) → ((rest : List ℕ) → size_of (line ++ rest) ≡ size_at state rest)
    → chunked limit (in_line line) body more ≡ lined limit state (length line) body more
lined_from [] limit state line body says = no_more limit state line body
lined_from (b ∷ bs) limit state line body says =
    let rest : BodyRead = cond (nat_le 1024 (length line + 1)) bad_body (lined limit (next_in_line state b) (length line + 1) body bs) in
    let here : BodyRead = cond (b == 10) (chunked_at limit (after_line (size_at_end state)) body bs) rest in
    let steps : chunked_at limit (line_step line b) body bs ≡ here =
    elim (b == 10) as (λ t. (b == 10) ≡ t → chunked_at limit (line_step line b) body bs ≡ here) [
      | true ↦ λ e.
          let lf : b ≡ 10 = grind (arith, nat_tests) in
          let size : size_of (line ++ b ∷ []) ≡ size_at_end state = says (b ∷ []) ∙ ap (λ c. size_at state (c ∷ [])) lf ∙ end_step state in
          rw (e, size) refl
      | false ↦ λ e. elim (nat_le 1024 (length line + 1)) as (λ t. nat_le 1024 (length line + 1) ≡ t → chunked_at limit (line_step line b) body bs ≡ here) [
        | true ↦ λ f. rw (e, f) refl
        | false ↦ λ f.
            let one : length (line ++ b ∷ []) ≡ length line + 1 = simp length-append refl in
            let later = lined_from bs limit (next_in_line state b) (line ++ b ∷ []) body (λ more. ap size_of (append_assoc line (b ∷ []) more) ∙ says (b ∷ more) ∙ next_step state b more e) in
            rw (e, f) (later ∙ ap (λ n. lined limit (next_in_line state b) n body bs) one)
      ] refl
    ] refl
    in
    chunked-line limit line b body bs ∙ steps ∙ sym (lined-cons limit state (length line) b body bs)

-- a body in chunks from the front of a line
pub lined_from_front : (limit : ℕ) (body more : List ℕ) → chunked limit (in_line []) body more ≡ lined limit Front 0 body more
lined_from_front limit body more = lined_from more limit Front [] body (λ rest. refl)

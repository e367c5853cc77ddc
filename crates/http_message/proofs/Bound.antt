-- An undecided reading has read a bounded number of bytes.
use Rattle.std.proofs.Common.{◌≡◌, ℕ, ◌+◌, ◌-◌, ◌*◌, ◌<◌, ◌≤◌, ◌⊎◌, inl, inr, ⊎_elim, Bool, true, false, cond, List, [], ◌∷◌, ◌++◌, length, take, drop, refl, sym, subst, arith, length-append, length-drop}
use Rattle.std.specs.Prelude.{Option, Some, None, nat_le, nat_lt, ◌==◌}
use Rattle.std.proofs.lemmas.Bool.Decides.{nat_tests}
use Rattle.http_message.specs.declared.lines.Place.TheVariants.{Front}
use Rattle.http_message.specs.declared.framing.Framing.{Framing}
use Rattle.http_message.specs.declared.framing.Framing.TheVariants as framing
use Rattle.http_message.specs.Body.{sized, body_from, with_body, message_from, decided, undecided}
use Rattle.http_message.specs.Reading.{Found, waiting, no_head, final_head, Reads, progress_after}
use Rattle.http_message.specs.Facts.{facts_of}
use Rattle.link_uri.specs.Wanted.{is_wanted}
use Rattle.http_message.specs.declared.facts.Facts.{Facts}
use Rattle.link_uri.specs.declared.heard.Reply.{Reply}
use Rattle.link_uri.specs.declared.heard.Heard.{Heard}
use Rattle.link_uri.specs.declared.heard.Heard.TheVariants as heard
use Rattle.http_message.specs.Lines.{next_place, ends_empty}
use Rattle.http_message.specs.Chunks.{BodyRead, whole_body, bad_body, long_body, part_body, ChunkPlace, in_line, in_data, after_data, after_cr, in_trailers, chunked, data_place, line_step, after_line, size_of}

-- how many more bytes leave a body in chunks undecided at a place, where n bytes of it have come
pub most : ℕ → ChunkPlace → ℕ → ℕ
most limit (in_line line) n = 1 + (1023 - length line) + 1027 * (limit - n) + 65536
most limit (in_data left) n = 1027 * (limit - n) + 65536
most limit after_data n = 1026 + 1027 * (limit - n) + 65536
most limit after_cr n = 1025 + 1027 * (limit - n) + 65536
most limit (in_trailers place seen) n = 65536 - seen

data_most : (limit left n : ℕ) → n < limit → most limit (data_place left) (n + 1) + 1 ≤ 1027 * (limit - n) + 65536
unfolding most
data_most limit left n less = elim (left == 0) as (λ t. most limit (cond t after_data (in_data left)) (n + 1) + 1 ≤ 1027 * (limit - n) + 65536) [ true ↦ omega arith | false ↦ omega arith ]

chosen : {A : Type 0} (b : Bool) (x y z : A) → cond b x y ≡ z → ((b ≡ true) × (x ≡ z)) ⊎ ((b ≡ false) × (y ≡ z))
chosen true x y z e = inl (refl, e)
chosen false x y z e = inr (refl, e)

sized_most : (limit n k : ℕ) (o : Option ℕ) (p : ChunkPlace) → after_line o ≡ Some p → most limit p n + 1 ≤ 1 + k + 1027 * (limit - n) + 65536
unfolding most
sized_most limit n k None p e = absurd (cc)
sized_most limit n k (Some size) p e =
    ⊎_elim (λ w. subst (λ p. most limit p n + 1 ≤ 1 + k + 1027 * (limit - n) + 65536) (let q : in_trailers Front 0 ≡ p = cc w.1 in q) (omega arith))
    (λ w. subst (λ p. most limit p n + 1 ≤ 1 + k + 1027 * (limit - n) + 65536) (let q : in_data size ≡ p = cc w.1 in q) (omega arith))
    (chosen (size == 0) (Some (in_trailers Front 0)) (Some (in_data size)) (Some p) e)

line_most : (limit n : ℕ) (line : List ℕ) (b : ℕ) (p : ChunkPlace) → line_step line b ≡ Some p → most limit p n + 1 ≤ most limit (in_line line) n
unfolding most
line_most limit n line b p e =
    ⊎_elim
    (λ w. sized_most limit n (1023 - length line) (size_of (line ++ b ∷ [])) p w.1)
    (λ w. ⊎_elim (λ v. absurd (cc v.1))
    (λ v.
    let short : length line + 1 < 1024 = grind (arith, nat_tests) in
    subst (λ p. most limit p n + 1 ≤ most limit (in_line line) n) (let q : in_line (line ++ b ∷ []) ≡ p = cc v.1 in q) (simp length-append (omega arith)))
    (chosen (nat_le 1024 (length line + 1)) None (Some (in_line (line ++ b ∷ []))) (Some p) w.1))
    (chosen (b == 10) (after_line (size_of (line ++ b ∷ []))) (cond (nat_le 1024 (length line + 1)) None (Some (in_line (line ++ b ∷ [])))) (Some p) e)

-- an undecided body in chunks has so many bytes at most
pub chunked_bound : (bytes : List ℕ) (limit : ℕ) (p : ChunkPlace) (body : List ℕ) (o : Option (List ℕ)) → chunked limit p body bytes ≡ part_body o
    → length bytes ≤ most limit p (length body)
unfolding chunked most
chunked_bound [] limit p body o e = omega arith
chunked_bound (b ∷ bs) limit (in_line line) body o e =
    elim (line_step line b) as (λ s. line_step line b ≡ s → (elim s [ None ↦ bad_body | Some place ↦ chunked limit place body bs ]) ≡ part_body o → length (b ∷ bs) ≤ most limit (in_line line) (length body)) [
      | None ↦ λ q w. absurd (cc w)
      | Some p ↦ λ q w. omega (arith, line_most limit (length body) line b p q, chunked_bound bs limit p body o w)
    ] refl e
chunked_bound (b ∷ bs) limit (in_data left) body o e =
    ⊎_elim (λ w. absurd (cc w.1))
    (λ w.
    let less : length body < limit = grind (arith, nat_tests) in
    let later = chunked_bound bs limit (data_place (left - 1)) (body ++ b ∷ []) o w.1 in
    let long : length (body ++ b ∷ []) ≡ length body + 1 = simp length-append refl in
    let later' : length bs ≤ most limit (data_place (left - 1)) (length body + 1) = subst (λ n. length bs ≤ most limit (data_place (left - 1)) n) long later in
    omega (arith, data_most limit (left - 1) (length body) less, later'))
    (chosen (nat_le limit (length body)) long_body (chunked limit (data_place (left - 1)) (body ++ b ∷ []) bs) (part_body o) e)
chunked_bound (b ∷ bs) limit after_data body o e =
    ⊎_elim (λ w. omega (arith, chunked_bound bs limit after_cr body o w.1)) (λ w. absurd (cc w.1))
    (chosen (b == 13) (chunked limit after_cr body bs) bad_body (part_body o) e)
chunked_bound (b ∷ bs) limit after_cr body o e =
    ⊎_elim (λ w. omega (arith, chunked_bound bs limit (in_line []) body o w.1)) (λ w. absurd (cc w.1))
    (chosen (b == 10) (chunked limit (in_line []) body bs) bad_body (part_body o) e)
chunked_bound (b ∷ bs) limit (in_trailers place seen) body o e =
    ⊎_elim (λ w. absurd (cc w.1))
    (λ w. ⊎_elim (λ v. absurd (cc v.1))
    (λ v.
    let early : seen + 1 < 65536 = grind (arith, nat_tests) in
    omega (arith, chunked_bound bs limit (in_trailers (next_place place b) (seen + 1)) body o v.1))
    (chosen (nat_le 65536 (seen + 1)) bad_body (chunked limit (in_trailers (next_place place b) (seen + 1)) body bs) (part_body o) w.1))
    (chosen (ends_empty place b) (whole_body body) (cond (nat_le 65536 (seen + 1)) bad_body (chunked limit (in_trailers (next_place place b) (seen + 1)) body bs)) (part_body o) e)

chunks_bound : (limit : ℕ) (bytes : List ℕ) (o : Option (List ℕ)) → chunked limit (in_line []) [] bytes ≡ part_body o → length bytes ≤ 1027 * limit + 66560
unfolding most
chunks_bound limit bytes o e = omega (arith, chunked_bound bytes limit (in_line []) [] o e)

-- a body that is undecided after some bytes
body_bound : (f : Framing) (limit : ℕ) (bytes : List ℕ) (o : Option (List ℕ)) → body_from f limit bytes ≡ part_body o → length bytes ≤ 1027 * limit + 66560
body_bound framing.Chunked limit bytes o e = chunks_bound limit bytes o e
body_bound (framing.Sized n) limit bytes o e =
    ⊎_elim (λ w. absurd (cc w.1))
    (λ w. ⊎_elim (λ v. absurd (cc v.1)) (λ v. grind (arith, nat_tests, v.0, w.0))
    (chosen (nat_le n (length bytes)) (whole_body ([] ++ take n bytes)) (part_body None) (part_body o) w.1))
    (chosen (nat_lt limit n) long_body (sized n [] bytes) (part_body o) e)
body_bound framing.UntilEnd limit bytes o e =
    ⊎_elim (λ w. absurd (cc w.1)) (λ w. grind (arith, nat_tests, w.0))
    (chosen (nat_lt limit (0 + length bytes)) long_body (part_body (Some ([] ++ bytes))) (part_body o) e)
body_bound framing.Bad limit bytes o e = absurd (cc)

undecided_body : (r : Reply) (b : BodyRead) (o : Option Heard) → with_body r b ≡ undecided o → (p : Option (List ℕ)) × (b ≡ part_body p)
undecided_body r (whole_body body) o e = absurd (cc)
undecided_body r bad_body o e = absurd (cc)
undecided_body r long_body o e = absurd (cc)
undecided_body r (part_body p) o e = (p, refl)

message_bound : (f : Facts) (limit : ℕ) (bytes : List ℕ) (o : Option Heard) → message_from f limit bytes ≡ undecided o → length bytes ≤ 1027 * limit + 66560
message_bound f limit bytes o e =
    let b = undecided_body f.reply (cond (is_wanted f.reply) (body_from f.framing limit bytes) (whole_body [])) o e in
    ⊎_elim (λ w. body_bound f.framing limit bytes b.0 w.1) (λ w. absurd (cc w.1))
    (chosen (is_wanted f.reply) (body_from f.framing limit bytes) (whole_body []) (part_body b.0) b.1)

found_bound : (limit : ℕ) (bytes : List ℕ) (found : Found) (o : Option Heard) → undecided o ≡ progress_after limit bytes found → length bytes ≤ 140000 + 1027 * (limit + 1)
found_bound limit bytes waiting o e =
    ⊎_elim (λ w. absurd (cc w.1)) (λ w. grind (arith, nat_tests, w.0))
    (chosen (nat_lt 65536 (length bytes)) (decided heard.Malformed) (undecided None) (undecided o) (sym e))
found_bound limit bytes no_head o e = absurd (cc)
found_bound limit bytes (final_head h rest) o e =
    let body = message_bound (facts_of h) limit (rest ++ drop 65536 bytes) o (sym e) in
    omega (arith, body, length-append rest (drop 65536 bytes), length-drop 65536 bytes)

-- an undecided reading has read so many bytes at most
pub reads_bound : (limit : ℕ) (bytes : List ℕ) (o : Option Heard) → Reads limit bytes (undecided o) → length bytes ≤ 140000 + 1027 * (limit + 1)
reads_bound limit bytes o r = found_bound limit bytes r.found o r.gives

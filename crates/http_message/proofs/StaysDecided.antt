-- What some bytes decide stays decided, whatever follows.
use Rattle.std.proofs.Common.{◌≡◌, ℕ, ◌+◌, ◌-◌, ◌<◌, ◌≤◌, ◌⊎◌, inl, inr, ⊎_elim, Bool, true, false, cond, List, [], ◌∷◌, ◌++◌, length, take, drop, refl, sym, ap, ◌∙◌, subst, arith, length-append, append_assoc, append-nil}
use Rattle.std.specs.Prelude.{Option, Some, None, nat_le, nat_lt, ◌==◌, ◌&&◌, not}
use Rattle.std.proofs.lemmas.Bool.Decides.{nat_tests}
use Rattle.std.proofs.lemmas.List.{take-append-drop, take-append-le, drop-append-le, take_all, drop_all}
use Rattle.httparse.specs.Grammar.{ResponseHead}
use Rattle.link_uri.specs.declared.heard.Reply.{Reply}
use Rattle.link_uri.specs.declared.heard.Heard.{Heard}
use Rattle.link_uri.specs.declared.heard.Heard.TheVariants as heard
use Rattle.link_uri.specs.Wanted.{is_wanted}
use Rattle.http_message.specs.declared.lines.Place.TheVariants.{Front}
use Rattle.http_message.specs.declared.facts.Facts.{Facts}
use Rattle.http_message.specs.declared.framing.Framing.{Framing}
use Rattle.http_message.specs.declared.framing.Framing.TheVariants as framing
use Rattle.http_message.specs.Heads.{IsHead}
use Rattle.http_message.specs.Facts.{facts_of}
use Rattle.http_message.specs.Lines.{end_from, skip_from, held, next_place, ends_empty}
use Rattle.http_message.specs.Chunks.{BodyRead, whole_body, bad_body, long_body, part_body, ChunkPlace, in_line, in_data, after_data, after_cr, in_trailers, chunked, data_place, line_step}
use Rattle.http_message.specs.Body.{decided, undecided, sized, body_from, with_body, message_from}
use Rattle.http_message.specs.Reading.{Found, waiting, no_head, final_head, Finds, Reads, progress_after}
use Rattle.http_message.proofs.LineLemmas.{end_within, end_kept}
use Rattle.http_message.proofs.ReadingLemmas.{take_over, drop_over}

chosen : {A : Type 0} (b : Bool) (x y z : A) → cond b x y ≡ z → ((b ≡ true) × (x ≡ z)) ⊎ ((b ≡ false) × (y ≡ z))
chosen true x y z e = inl (refl, e)
chosen false x y z e = inr (refl, e)

-- ---- bodies

is_settled : BodyRead → Bool
is_settled (whole_body body) = true
is_settled bad_body = true
is_settled long_body = true
is_settled (part_body body) = false

not_part : {A : Type 0} (o : Option (List ℕ)) (r : BodyRead) → is_settled r ≡ true → part_body o ≡ r → A
unfolding is_settled
not_part o r ok e = absurd (let wrong : false ≡ true = ap is_settled e ∙ ok in cc)

-- both branches keep what they come to
kept : (t : Bool) (x y x' y' r : BodyRead) → (x ≡ r → x' ≡ r) → (y ≡ r → y' ≡ r) → cond t x y ≡ r → cond t x' y' ≡ r
kept true x y x' y' r f g e = f e
kept false x y x' y' r f g e = g e

chunked_more : (bytes more : List ℕ) (limit : ℕ) (p : ChunkPlace) (body : List ℕ) (r : BodyRead) → is_settled r ≡ true
    → chunked limit p body bytes ≡ r → chunked limit p body (bytes ++ more) ≡ r
unfolding chunked
chunked_more [] more limit p body r ok e = not_part None r ok e
chunked_more (b ∷ bs) more limit (in_line line) body r ok e =
    elim (line_step line b) as (λ s. (elim s [ None ↦ bad_body | Some place ↦ chunked limit place body bs ]) ≡ r → (elim s [ None ↦ bad_body | Some place ↦ chunked limit place body (bs ++ more) ]) ≡ r) [
      | None ↦ λ w. w
      | Some p ↦ λ w. chunked_more bs more limit p body r ok w
    ] e
chunked_more (b ∷ bs) more limit (in_data left) body r ok e =
    let next = body ++ b ∷ [] in
    let place = data_place (left - 1) in
    kept (nat_le limit (length body)) long_body (chunked limit place next bs) long_body (chunked limit place next (bs ++ more)) r
    (λ q. q) (λ q. chunked_more bs more limit place next r ok q) e
chunked_more (b ∷ bs) more limit after_data body r ok e =
    kept (b == 13) (chunked limit after_cr body bs) bad_body (chunked limit after_cr body (bs ++ more)) bad_body r
    (λ q. chunked_more bs more limit after_cr body r ok q) (λ q. q) e
chunked_more (b ∷ bs) more limit after_cr body r ok e =
    kept (b == 10) (chunked limit (in_line []) body bs) bad_body (chunked limit (in_line []) body (bs ++ more)) bad_body r
    (λ q. chunked_more bs more limit (in_line []) body r ok q) (λ q. q) e
chunked_more (b ∷ bs) more limit (in_trailers place seen) body r ok e =
    let next = in_trailers (next_place place b) (seen + 1) in
    let now = chunked limit next body bs in
    let later = chunked limit next body (bs ++ more) in
    kept (ends_empty place b) (whole_body body) (cond (nat_le 65536 (seen + 1)) bad_body now) (whole_body body) (cond (nat_le 65536 (seen + 1)) bad_body later) r
    (λ q. q) (λ q. kept (nat_le 65536 (seen + 1)) bad_body now bad_body later r (λ v. v) (λ v. chunked_more bs more limit next body r ok v) q) e

sized_more : (n : ℕ) (bytes more : List ℕ) (r : BodyRead) → is_settled r ≡ true → sized n [] bytes ≡ r → sized n [] (bytes ++ more) ≡ r
sized_more n bytes more r ok e =
    ⊎_elim
    (λ w.
    let within : n ≤ length bytes = grind (arith, nat_tests, w.0) in
    let long : nat_le n (length (bytes ++ more)) ≡ true = rw length-append (grind (arith, nat_tests)) in
    rw (long, take-append-le n bytes more within) w.1)
    (λ w. not_part None r ok w.1)
    (chosen (nat_le n (length bytes)) (whole_body ([] ++ take n bytes)) (part_body None) r e)

body_more : (f : Framing) (limit : ℕ) (bytes more : List ℕ) (r : BodyRead) → is_settled r ≡ true → body_from f limit bytes ≡ r → body_from f limit (bytes ++ more) ≡ r
body_more framing.Chunked limit bytes more r ok e = chunked_more bytes more limit (in_line []) [] r ok e
body_more (framing.Sized n) limit bytes more r ok e =
    kept (nat_lt limit n) long_body (sized n [] bytes) long_body (sized n [] (bytes ++ more)) r (λ q. q) (sized_more n bytes more r ok) e
body_more framing.UntilEnd limit bytes more r ok e =
    ⊎_elim
    (λ w.
    let less : limit < length bytes = grind (arith, nat_tests, w.0) in
    let over : nat_lt limit (0 + length (bytes ++ more)) ≡ true = rw length-append (grind (arith, nat_tests)) in
    rw over w.1)
    (λ w. not_part (Some ([] ++ bytes)) r ok w.1)
    (chosen (nat_lt limit (0 + length bytes)) long_body (part_body (Some ([] ++ bytes))) r e)
body_more framing.Bad limit bytes more r ok e = e

settled_body : (reply : Reply) (b : BodyRead) (h : Heard) → with_body reply b ≡ decided h → is_settled b ≡ true
unfolding is_settled
settled_body reply (whole_body body) h e = refl
settled_body reply bad_body h e = refl
settled_body reply long_body h e = refl
settled_body reply (part_body body) h e = absurd (cc)

message_more : (f : Facts) (limit : ℕ) (bytes more : List ℕ) (h : Heard) → message_from f limit bytes ≡ decided h → message_from f limit (bytes ++ more) ≡ decided h
message_more f limit bytes more h e =
    let wants = is_wanted f.reply in
    let now = cond wants (body_from f.framing limit bytes) (whole_body []) in
    let ok : is_settled now ≡ true = settled_body f.reply now h e in
    let same : cond wants (body_from f.framing limit (bytes ++ more)) (whole_body []) ≡ now =
    kept wants (body_from f.framing limit bytes) (whole_body []) (body_from f.framing limit (bytes ++ more)) (whole_body []) now
    (body_more f.framing limit bytes more now ok) (λ q. q) refl in
    ap (with_body f.reply) same ∙ e

-- ---- heads

end_more : (bytes more : List ℕ) (n : ℕ) → end_from Front bytes ≡ Some n → end_from Front (bytes ++ more) ≡ Some n
end_more bytes more n e =
    let whole : take n bytes ++ (drop n bytes ++ more) ≡ bytes ++ more = sym (append_assoc (take n bytes) (drop n bytes) more) ∙ ap (λ t. t ++ more) (take-append-drop n bytes) in
    subst (λ t. end_from Front t ≡ Some n) whole (end_kept Front bytes (drop n bytes ++ more) n e)

-- what is found, with more bytes after the final head
later : Found → List ℕ → Found
later waiting more = waiting
later no_head more = no_head
later (final_head h rest) more = final_head h (rest ++ more)

first_end : (is : List ResponseHead) (bytes : List ℕ) (f : Found) → (f ≡ waiting → ⊥) → Finds is bytes f → (n : ℕ) × (end_from Front bytes ≡ Some n)
first_end [] bytes waiting other x = absurd (other refl)
first_end [] bytes no_head other x = (x.0, x.1)
first_end [] bytes (final_head h rest) other x = (x.0, x.1)
first_end (i ∷ is) bytes f other x = (x.0, x.1)

taken : (bytes more : List ℕ) (n : ℕ) → end_from Front bytes ≡ Some n → take n (bytes ++ more) ≡ take n bytes
taken bytes more n e = take-append-le n bytes more (end_within Front bytes n e).1

left : (bytes more : List ℕ) (n : ℕ) → end_from Front bytes ≡ Some n → drop n (bytes ++ more) ≡ drop n bytes ++ more
left bytes more n e = drop-append-le n bytes more (end_within Front bytes n e).1

finds_more : (is : List ResponseHead) (bytes more : List ℕ) (f : Found) → (f ≡ waiting → ⊥) → Finds is bytes f → Finds is (bytes ++ more) (later f more)
unfolding later
finds_more [] bytes more waiting other x = absurd (other refl)
finds_more [] bytes more no_head other x =
    (x.0, end_more bytes more x.0 x.1, λ h is. x.2 h (subst (λ t. IsHead t h) (taken bytes more x.0 x.1) is))
finds_more [] bytes more (final_head h rest) other x = (
  x.0,
  end_more bytes more x.0 x.1,
  subst (λ t. IsHead t h) (sym (taken bytes more x.0 x.1)) x.2,
  x.3,
  ap (λ t. t ++ more) x.4 ∙ sym (left bytes more x.0 x.1),
)
finds_more (i ∷ is) bytes more f other x = (
  x.0,
  end_more bytes more x.0 x.1,
  subst (λ t. IsHead t i) (sym (taken bytes more x.0 x.1)) x.2,
  x.3,
  subst (λ t. Finds is t (later f more)) (sym (left bytes more x.0 x.1)) (finds_more is (drop x.0 bytes) more f other x.4),
)

skipped : (t : Bool) (x y x' y' more : List ℕ) (n : ℕ) → (end_from Front x ≡ Some n → x' ≡ x ++ more) → (end_from Front y ≡ Some n → y' ≡ y ++ more)
    → end_from Front (cond t x y) ≡ Some n → cond t x' y' ≡ cond t x y ++ more
skipped true x y x' y' more n f g e = f e
skipped false x y x' y' more n f g e = g e

-- empty lines at the front end where they ended
skip_more : (cr : Bool) (bytes more : List ℕ) (n : ℕ) → end_from Front (skip_from cr bytes) ≡ Some n → skip_from cr (bytes ++ more) ≡ skip_from cr bytes ++ more
skip_more true [] more n e = absurd (cc)
skip_more false [] more n e = absurd (cc)
skip_more cr (b ∷ bs) more n e =
    let here = held cr ++ b ∷ bs in
    let after = held cr ++ b ∷ (bs ++ more) in
    skipped (b == 10) (skip_from false bs) (cond (b == 13 && not cr) (skip_from true bs) here)
    (skip_from false (bs ++ more)) (cond (b == 13 && not cr) (skip_from true (bs ++ more)) after) more n
    (skip_more false bs more n)
    (skipped (b == 13 && not cr) (skip_from true bs) here (skip_from true (bs ++ more)) after more n
    (skip_more true bs more n) (λ _. sym (append_assoc (held cr) (b ∷ bs) more)))
    e

-- ---- readings

few : (n m : ℕ) → (n ≤ m) ⊎ (m < n)
few n m = elim (nat_le n m) as (λ t. nat_le n m ≡ t → (n ≤ m) ⊎ (m < n)) [
  | true ↦ λ e. inl (grind (arith, nat_tests))
  | false ↦ λ e. inr (grind (arith, nat_tests))
] refl

none_left : (n m : ℕ) → m < n → m - n ≡ 0
none_left n m less = omega (arith, less)

front_more : (bytes more : List ℕ) → take 65536 (bytes ++ more) ≡ take 65536 bytes ++ take (65536 - length bytes) more
front_more bytes more =
    ⊎_elim
    (λ short. take_over 65536 bytes more short ∙ ap (λ t. t ++ take (65536 - length bytes) more) (sym (take_all 65536 bytes short)))
    (λ long. rw (none_left (length bytes) 65536 long, append-nil (take 65536 bytes)) (take-append-le 65536 bytes more (omega (arith, long))))
    (few (length bytes) 65536)

rest_more : (bytes more rest : List ℕ)
    → (rest ++ take (65536 - length bytes) more) ++ drop 65536 (bytes ++ more) ≡ (rest ++ drop 65536 bytes) ++ more
rest_more bytes more rest =
    ⊎_elim
    (λ short.
    rw (drop_over 65536 bytes more short, append_assoc, take-append-drop (65536 - length bytes) more, drop_all 65536 bytes short, append-nil rest) refl)
    (λ long. rw (none_left (length bytes) 65536 long, append-nil rest, drop-append-le 65536 bytes more (omega (arith, long)), append_assoc) refl)
    (few (length bytes) 65536)

found_stays : (limit : ℕ) (bytes more : List ℕ) (h : Heard) (is : List ResponseHead) (f : Found) → (f ≡ waiting → ⊥)
    → Finds is (skip_from false (take 65536 bytes)) f → progress_after limit (bytes ++ more) (later f (take (65536 - length bytes) more)) ≡ decided h
    → Reads limit (bytes ++ more) (decided h)
found_stays limit bytes more h is f other finds gives =
    let front = take 65536 bytes in
    let next = take (65536 - length bytes) more in
    let first = first_end is (skip_from false front) f other finds in
    let whole : skip_from false front ++ next ≡ skip_from false (take 65536 (bytes ++ more)) =
    sym (ap (skip_from false) (front_more bytes more) ∙ skip_more false front next first.0 first.1) in
    record {
      interims = is;
      found = later f next;
      finds = subst (λ t. Finds is t (later f next)) whole (finds_more is (skip_from false front) next f other finds);
      gives = sym gives;
    }

stays : (limit : ℕ) (bytes more : List ℕ) (h : Heard) (is : List ResponseHead) (f : Found)
    → Finds is (skip_from false (take 65536 bytes)) f → progress_after limit bytes f ≡ decided h → Reads limit (bytes ++ more) (decided h)
unfolding later
stays limit bytes more h is waiting finds e =
    ⊎_elim
    (λ w.
    let long : 65536 < length bytes = grind (arith, nat_tests, w.0) in
    let over : nat_lt 65536 (length (bytes ++ more)) ≡ true = rw length-append (grind (arith, nat_tests)) in
    record {
      interims = is;
      found = waiting;
      finds = subst (λ t. Finds is (skip_from false t) waiting) (sym (take-append-le 65536 bytes more (omega (arith, long)))) finds;
      gives = rw over (sym w.1);
    })
    (λ w. absurd (cc w.1))
    (chosen (nat_lt 65536 (length bytes)) (decided heard.Malformed) (undecided None) (decided h) e)
stays limit bytes more h is no_head finds e = found_stays limit bytes more h is no_head (λ q. absurd cc) finds e
stays limit bytes more h is (final_head head rest) finds e =
    found_stays limit bytes more h is (final_head head rest) (λ q. absurd cc) finds
    (ap (message_from (facts_of head) limit) (rest_more bytes more rest) ∙ message_more (facts_of head) limit (rest ++ drop 65536 bytes) more h e)

pub stays_decided : (limit : ℕ) (bytes more : List ℕ) (heard : Heard) → Reads limit bytes (decided heard) → Reads limit (bytes ++ more) (decided heard)
stays_decided limit bytes more heard r = stays limit bytes more heard r.interims r.found r.finds (sym r.gives)

-- How the reading of heads goes on after some bytes.
use Rattle.std.proofs.Common.{◌≡◌, ℕ, ◌+◌, ◌-◌, ◌<◌, ◌≤◌, ⊎_elim, Bool, true, false, List, [], ◌∷◌, ◌++◌, length, take, drop, refl, sym, ap, ◌∙◌, subst, arith, length-append, append_assoc, append-nil}
use Rattle.std.specs.Prelude.{Option, Some, None, nat_lt}
use Rattle.std.proofs.Math.Seq.{take-add, take-append-add, drop-append-add, take-append_seam, drop-append_seam}
use Rattle.std.proofs.lemmas.List.{take-append-drop, length-take-le}
use Rattle.std.proofs.lemmas.Bool.Decides.{nat_tests}
use Rattle.std.proofs.lemmas.Grind.{common_steps}
use Rattle.httparse.specs.Grammar.{ResponseHead}
use Rattle.http_message.specs.Heads.{IsHead}
use Rattle.http_message.specs.Facts.{facts_of}
use Rattle.link_uri.specs.declared.heard.Heard.TheVariants as heard
use Rattle.http_message.specs.declared.lines.Place.{Place}
use Rattle.http_message.specs.declared.lines.Place.TheVariants.{Front}
use Rattle.http_message.specs.declared.reading.Phase.{Phase}
use Rattle.http_message.specs.declared.reading.Phase.TheVariants as phase
use Rattle.link_uri.specs.declared.heard.Heard.{Heard}
use Rattle.http_message.specs.Lines.{end_from, place_after, skip_from, held}
use Rattle.http_message.specs.Body.{Progress, decided, undecided, message_from}
use Rattle.http_message.specs.State.{BodyState, progress_from, is_decided}
use Rattle.http_message.specs.Reading.{Found, waiting, no_head, final_head, Finds, Reads, progress_after}
use Rattle.http_message.specs.Views.{ReadingState, HasRead, is_done, is_done_at, GoesOn, IsSettled, IsInHead, IsSound, HasBlank, HasHead, HasBody, HasReadAt, IsNoHead, IsFinalHead, IsInterimHead, IsAfterHead}
use Rattle.http_message.proofs.Bound.{reads_bound}
use Rattle.http_message.proofs.LineLemmas.{end_within, end_not_yet, place_after-append, whole_end}

pub take_over : (n : ℕ) (xs ys : List ℕ) → length xs ≤ n → take n (xs ++ ys) ≡ xs ++ take (n - length xs) ys
take_over n xs ys h =
    let sum : n ≡ length xs + (n - length xs) = omega arith in
    ap (λ k. take k (xs ++ ys)) sum ∙ take-append-add xs ys (n - length xs)

pub drop_over : (n : ℕ) (xs ys : List ℕ) → length xs ≤ n → drop n (xs ++ ys) ≡ drop (n - length xs) ys
drop_over n xs ys h =
    let sum : n ≡ length xs + (n - length xs) = omega arith in
    ap (λ k. drop k (xs ++ ys)) sum ∙ drop-append-add xs ys (n - length xs)

-- what is found in the first bytes gives what all have come to
reads_found : (limit : ℕ) (fed more : List ℕ) (found : Found) (is : List ResponseHead) → length fed ≤ 65536
    → Finds is (skip_from false (fed ++ take (65536 - length fed) more)) found → Reads limit (fed ++ more) (progress_after limit (fed ++ more) found)
reads_found limit fed more found is fits finds = record {
  interims = is;
  found = found;
  finds = subst (λ xs. Finds is (skip_from false xs) found) (sym (take_over 65536 fed more fits)) finds;
  gives = refl;
}

-- where no head has ended in 65,536 bytes, one more makes the message malformed
reads_over : (limit : ℕ) (fed xs more : List ℕ) (is : List ResponseHead) → length fed ≡ 65536 → 0 < length xs
    → Finds is (skip_from false (fed ++ [])) waiting → Reads limit ((fed ++ xs) ++ more) (decided heard.Malformed)
reads_over limit fed xs more is full some finds =
    let front : take 65536 ((fed ++ xs) ++ more) ≡ fed ++ [] = rw append_assoc (take_over 65536 fed (xs ++ more) (omega arith) ∙ ap (λ k. fed ++ take k (xs ++ more)) (let none : 65536 - length fed ≡ 0 = omega arith in none)) in
    let long : nat_lt 65536 (length ((fed ++ xs) ++ more)) ≡ true = simp length-append (grind (arith, nat_tests)) in
    record {
      interims = is;
      found = waiting;
      finds = subst (λ ys. Finds is (skip_from false ys) waiting) (sym front) finds;
      gives = rw long refl;
    }

pub blank_over : (limit : ℕ) (cr : Bool) (seen b : ℕ) (fed : List ℕ) (body : BodyState) → 65536 ≤ seen → seen ≤ 65536 → body.limit ≡ limit
    → ((more : List ℕ) → progress_from body more ≡ decided heard.Malformed) → HasBlank cr seen fed → HasBody body limit (fed ++ b ∷ [])
blank_over limit cr seen b fed body low high same malformed has = record {
  limit_is = same;
  reads = λ more.
      let none : Finds [] (skip_from false (fed ++ [])) waiting = rw (has.skips []) (elim cr as (λ cr. end_from Front (held cr) ≡ None) [ true ↦ refl | false ↦ refl ]) in
      rw (malformed more) (reads_over limit fed (b ∷ []) more [] (omega (arith, has.counts)) (omega arith) none);
}

pub head_over : (limit seen : ℕ) (place : Place) (head fed xs : List ℕ) (body : BodyState) → 65536 ≤ seen → 0 < length xs → body.limit ≡ limit
    → ((more : List ℕ) → progress_from body more ≡ decided heard.Malformed) → IsInHead place seen head → HasHead seen head fed → HasBody body limit (fed ++ xs)
head_over limit seen place head fed xs body low some same malformed sound has = record {
  limit_is = same;
  reads = λ more.
      let none : Finds [] (head ++ []) waiting = rw (append-nil head) sound.none in
      let js = has.finds [] waiting [] none in
      rw (malformed more) (reads_over limit fed xs more js.0 (omega (arith, has.counts, sound.fits)) some js.1);
}

pub blank_more : (cr next : Bool) (seen b : ℕ) (fed : List ℕ) → ((more : List ℕ) → skip_from cr (b ∷ more) ≡ skip_from next more)
    → HasBlank cr seen fed → HasBlank next (seen + 1) (fed ++ b ∷ [])
blank_more cr next seen b fed e has = record {
  counts = rw length-append (omega (arith, has.counts));
  skips = λ more. rw append_assoc (has.skips (b ∷ more) ∙ e more);
}

pub blank_head : (cr : Bool) (seen b : ℕ) (head fed : List ℕ) → head ≡ held cr ++ b ∷ [] → ((more : List ℕ) → skip_from cr (b ∷ more) ≡ held cr ++ b ∷ more)
    → HasBlank cr seen fed → HasHead (seen + 1) head (fed ++ b ∷ [])
blank_head cr seen b head fed q e has = record {
  counts = rw length-append (omega (arith, has.counts));
  finds = λ more found is f.
      let same : skip_from false ((fed ++ b ∷ []) ++ more) ≡ head ++ more = rw append_assoc (has.skips (b ∷ more) ∙ e more ∙ sym (rw (q, append_assoc) refl)) in
      (is, subst (λ xs. Finds is xs found) (sym same) f);
}

pub head_more : (seen n : ℕ) (head xs fed : List ℕ) → length xs ≡ n → HasHead seen head fed → HasHead (seen + n) (head ++ xs) (fed ++ xs)
head_more seen n head xs fed long has = record {
  counts = rw length-append (omega (arith, has.counts));
  finds = λ more found is f. rw append_assoc (has.finds (xs ++ more) found is (rw append_assoc at f));
}

-- after a whole head
whole_at : (place : Place) (seen : ℕ) (head piece more : List ℕ) (m : ℕ) → IsInHead place seen head → end_from place piece ≡ Some m
    → end_from Front ((head ++ take m piece) ++ more) ≡ Some (length (head ++ take m piece))
whole_at place seen head piece more m sound e = whole_end Front head piece more m sound.none (subst (λ p. end_from p piece ≡ Some m) (sym sound.here) e)

pub head_interim : (place : Place) (seen m : ℕ) (head piece fed : List ℕ) → IsInHead place seen head → end_from place piece ≡ Some m
    → IsInterimHead (head ++ take m piece) → HasHead seen head fed → HasHead (seen + m) [] (fed ++ take m piece)
head_interim place seen m head piece fed sound e interim has =
    let xs = take m piece in
    let whole = head ++ xs in
    let within = end_within place piece m e in
    record {
      counts = rw (length-append, length-take-le m piece within.1) (omega (arith, has.counts));
      finds = λ more found is f.
          let here : Finds (interim.tree ∷ is) (whole ++ more) found = (length whole, whole_at place seen head piece more m sound e, rw take-append_seam interim.is_head, interim.interim, rw drop-append_seam f) in
          rw append_assoc (has.finds (xs ++ more) found (interim.tree ∷ is) (subst (λ ys. Finds (interim.tree ∷ is) ys found) (append_assoc head xs more) here));
    }

pub head_none : (limit : ℕ) (place : Place) (seen m : ℕ) (head piece fed : List ℕ) (body : BodyState) → seen + m ≤ 65536 → body.limit ≡ limit → IsInHead place seen head → end_from place piece ≡ Some m
    → IsNoHead (head ++ take m piece) body → HasHead seen head fed → HasBody body limit (fed ++ take m piece)
head_none limit place seen m head piece fed body fits same sound e bad has =
    let xs = take m piece in
    let whole = head ++ xs in
    let within = end_within place piece m e in
    let long : length (fed ++ xs) ≤ 65536 = rw (length-append, length-take-le m piece within.1) (omega (arith, has.counts)) in
    record {
      limit_is = same;
      reads = λ more.
          let rest = take (65536 - length (fed ++ xs)) more in
          let here : Finds [] (whole ++ rest) no_head = (length whole, whole_at place seen head piece rest m sound e, rw take-append_seam bad.none) in
          let all = has.finds (xs ++ rest) no_head [] (subst (λ ys. Finds [] ys no_head) (append_assoc head xs rest) here) in
          rw (bad.malformed more) (reads_found limit (fed ++ xs) more no_head all.0 long (rw append_assoc all.1));
    }

pub head_final : (limit : ℕ) (place : Place) (seen m : ℕ) (head piece fed : List ℕ) (body : BodyState) → seen + m ≤ 65536 → body.limit ≡ limit → IsInHead place seen head → end_from place piece ≡ Some m
    → IsFinalHead limit (head ++ take m piece) body → HasHead seen head fed → HasBody body limit (fed ++ take m piece)
head_final limit place seen m head piece fed body fits same sound e last has =
    let xs = take m piece in
    let whole = head ++ xs in
    let within = end_within place piece m e in
    let long : length (fed ++ xs) ≤ 65536 = rw (length-append, length-take-le m piece within.1) (omega (arith, has.counts)) in
    record {
      limit_is = same;
      reads = λ more.
          let k = 65536 - length (fed ++ xs) in
          let rest = take k more in
          let found = final_head last.tree rest in
          let is_it : IsHead (take (length whole) (whole ++ rest)) last.tree = rw take-append_seam last.is_head in
          let here : Finds [] (whole ++ rest) found = (length whole, whole_at place seen head piece rest m sound e, is_it, last.last, sym (drop-append_seam whole rest)) in
          let all = has.finds (xs ++ rest) found [] (subst (λ ys. Finds [] ys found) (append_assoc head xs rest) here) in
          let left : rest ++ drop 65536 ((fed ++ xs) ++ more) ≡ more = ap (λ ys. rest ++ ys) (drop_over 65536 (fed ++ xs) more long) ∙ take-append-drop k more in
          let whole_reads : Reads limit ((fed ++ xs) ++ more) (progress_after limit ((fed ++ xs) ++ more) found) = reads_found limit (fed ++ xs) more found all.0 long (subst (λ ys. Finds all.0 (skip_from false ys) found) (sym (append_assoc fed xs rest)) all.1) in
          subst (Reads limit ((fed ++ xs) ++ more)) (ap (message_from (facts_of last.tree) limit) left ∙ last.goes_on more) whole_reads;
    }

pub head_sound : (place next : Place) (seen n : ℕ) (head xs : List ℕ) → length xs ≡ n → seen + n ≤ 65536 → IsInHead place seen head
    → end_from place xs ≡ None → place_after place xs ≡ next → IsInHead next (seen + n) (head ++ xs)
head_sound place next seen n head xs long fits sound none here = record {
  short = rw length-append (omega (arith, sound.short));
  fits = fits;
  none = end_not_yet Front head xs sound.none (subst (λ p. end_from p xs ≡ None) (sym sound.here) none);
  here = place_after-append Front head xs ∙ ap (λ p. place_after p xs) sound.here ∙ here;
}

-- the phase after a whole head has read what came
pub head_after : (limit : ℕ) (place : Place) (seen m : ℕ) (head piece fed kept : List ℕ) (p : Phase) → seen + m ≤ 65536 → IsInHead place seen head → end_from place piece ≡ Some m
    → IsAfterHead limit (head ++ take m piece) p kept → HasHead seen head fed → HasReadAt p limit (seen + m) kept (fed ++ take m piece)
head_after limit place seen m head piece fed kept (phase.Blank cr) fits sound e after has = absurd after
head_after limit place seen m head piece fed kept (phase.Head at) fits sound e after has =
    subst (λ k. HasHead (seen + m) k (fed ++ take m piece)) (sym after.1) (head_interim place seen m head piece fed sound e after.2 has)
head_after limit place seen m head piece fed kept (phase.Body body) fits sound e after has =
    ⊎_elim (λ w. head_none limit place seen m head piece fed body fits after.0 sound e w has) (λ w. head_final limit place seen m head piece fed body fits after.0 sound e w has) after.1

pub after_sound : (limit seen : ℕ) (head kept : List ℕ) (p : Phase) → seen ≤ 65536 → IsAfterHead limit head p kept → IsSound p seen kept
after_sound limit seen head kept (phase.Blank cr) fits after = absurd after
after_sound limit seen head kept (phase.Head place) fits after = record {
  short = rw after.1 (omega arith);
  fits = fits;
  none = rw after.1 refl;
  here = rw after.1 (sym after.0);
}
after_sound limit seen head kept (phase.Body body) fits after = tt

take-all : (n : ℕ) (xs : List ℕ) → length xs ≤ n → take n xs ≡ xs
take-all n xs h = grind (arith, common_steps)

waits : (limit : ℕ) (fed : List ℕ) (is : List ResponseHead) → length fed ≤ 65536 → Finds is (skip_from false (fed ++ [])) waiting → Reads limit fed (undecided None)
waits limit fed is fits finds =
    let short : nat_lt 65536 (length fed) ≡ false = grind (arith, nat_tests) in
    let all : take 65536 fed ≡ fed ++ [] = take-all 65536 fed fits ∙ sym (append-nil fed) in
    record {
      interims = is;
      found = waiting;
      finds = subst (λ ys. Finds is (skip_from false ys) waiting) (sym all) finds;
      gives = rw short refl;
    }

pub takes_more : (old mid new : ReadingState) (piece : List ℕ) (at n : ℕ)
    → ((fed : List ℕ) → HasRead old fed → HasRead mid (fed ++ take at piece)) → ((fed : List ℕ) → HasRead mid fed → HasRead new (fed ++ take n (drop at piece)))
    → (fed : List ℕ) → HasRead old fed → HasRead new (fed ++ take (at + n) piece)
takes_more old mid new piece at n a b fed has =
    let both : fed ++ take (at + n) piece ≡ (fed ++ take at piece) ++ take n (drop at piece) = rw (take-add at n piece) (sym (append_assoc fed (take at piece) (take n (drop at piece)))) in
    subst (HasRead new) (sym both) (b (fed ++ take at piece) (a fed has))

-- what an undecided state has read
pub blank_part : (limit seen : ℕ) (cr : Bool) (fed : List ℕ) → seen ≤ 65536 → HasBlank cr seen fed → Reads limit fed (undecided None)
blank_part limit seen cr fed fits has =
    let none : Finds [] (skip_from false (fed ++ [])) waiting = rw (has.skips []) (elim cr as (λ cr. end_from Front (held cr) ≡ None) [ true ↦ refl | false ↦ refl ]) in
    waits limit fed [] (omega (arith, has.counts)) none

pub head_part : (limit seen : ℕ) (place : Place) (head fed : List ℕ) → IsInHead place seen head → HasHead seen head fed → Reads limit fed (undecided None)
head_part limit seen place head fed sound has =
    let none : Finds [] (head ++ []) waiting = rw (append-nil head) sound.none in
    let js = has.finds [] waiting [] none in
    waits limit fed js.0 (omega (arith, has.counts, sound.fits)) js.1

pub body_reads : (limit : ℕ) (body : BodyState) (bytes : List ℕ) (p : Progress) → progress_from body [] ≡ p → HasBody body limit bytes → Reads limit bytes p
body_reads limit body bytes p q has = subst (λ xs. Reads limit xs p) (append-nil bytes) (subst (Reads limit (bytes ++ [])) q (has.reads []))

-- ---- what is given

outside : (limit seen : ℕ) (p : Phase) (head bytes : List ℕ) → IsSound p seen head → ((body : BodyState) → p ≡ phase.Body body → ⊥) → HasReadAt p limit seen head bytes
    → (is_done_at p ≡ false) × Reads limit bytes (undecided None)
outside limit seen (phase.Blank cr) head bytes sound other has = (refl, blank_part limit seen cr bytes sound.1 has)
outside limit seen (phase.Head place) head bytes sound other has = (refl, head_part limit seen place head bytes sound has)
outside limit seen (phase.Body body) head bytes sound other has = absurd (other body refl)

goes_on : (limit : ℕ) (new : ReadingState) (bytes : List ℕ) (e : Option Heard) → new.limit ≡ limit → is_done new ≡ false → HasRead new bytes → Reads new.limit bytes (undecided e) → GoesOn limit bytes new
goes_on limit new bytes e same going has reads =
    let here : Reads limit bytes (undecided e) = subst (λ l. Reads l bytes (undecided e)) same reads in
    record { limit_is = same; going = going; read = has; ended = e; reads = here; few = reads_bound limit bytes e here }

-- before the final head has ended nothing is decided
pub gives_outside : (limit : ℕ) (new : ReadingState) (bytes : List ℕ) → new.limit ≡ limit → IsSound new.phase new.seen new.head → ((body : BodyState) → new.phase ≡ phase.Body body → ⊥) → HasRead new bytes
    → GoesOn limit bytes new
gives_outside limit new bytes same sound other has =
    let part = outside new.limit new.seen new.phase new.head bytes sound other has in
    goes_on limit new bytes None same part.0 has part.1

pub ends_outside : (s : ReadingState) (bytes : List ℕ) → IsSound s.phase s.seen s.head → ((body : BodyState) → s.phase ≡ phase.Body body → ⊥) → HasRead s bytes → Reads s.limit bytes (undecided None)
ends_outside s bytes sound other has = (outside s.limit s.seen s.phase s.head bytes sound other has).1

has_body : (s : ReadingState) (bytes : List ℕ) (body : BodyState) → s.phase ≡ phase.Body body → HasRead s bytes → HasBody body s.limit bytes
has_body s bytes body at has = subst (λ p. HasReadAt p s.limit s.seen s.head bytes) at has

-- a body that is undecided
pub gives_body : (limit : ℕ) (new : ReadingState) (bytes : List ℕ) (body : BodyState) (e : Option Heard) → new.limit ≡ limit → new.phase ≡ phase.Body body → is_decided body.stage ≡ false
    → progress_from body [] ≡ undecided e → HasRead new bytes → GoesOn limit bytes new
gives_body limit new bytes body e same at going part has =
    goes_on limit new bytes e same (ap is_done_at at ∙ going) has (body_reads new.limit body bytes (undecided e) part (has_body new bytes body at has))

-- a body that is decided, and the state in which what is heard was taken from it
pub gives_done : (limit : ℕ) (now new : ReadingState) (bytes : List ℕ) (body left : BodyState) (heard : Heard) → now.limit ≡ limit → now.phase ≡ phase.Body body
    → ((more : List ℕ) → progress_from body more ≡ decided heard) → HasRead now bytes → new.phase ≡ phase.Body left → is_decided left.stage ≡ true → IsSettled limit bytes heard new
gives_done limit now new bytes body left heard same at says has after done = record {
  done = ap is_done_at after ∙ done;
  reads = λ more.
      let here : HasBody body limit bytes = subst (λ l. HasBody body l bytes) same (has_body now bytes body at has) in
      subst (Reads limit (bytes ++ more)) (says more) (here.reads more);
}

pub ends_body : (s : ReadingState) (bytes : List ℕ) (body : BodyState) (e : Option Heard) → s.phase ≡ phase.Body body → progress_from body [] ≡ undecided e → HasRead s bytes → Reads s.limit bytes (undecided e)
ends_body s bytes body e at part has = body_reads s.limit body bytes (undecided e) part (has_body s bytes body at has)

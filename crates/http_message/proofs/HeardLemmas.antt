-- What is never heard, and bodies of a stated length.
use Rattle.std.proofs.Common.{◌≡◌, ◌≢◌, ℕ, ◌≤◌, ◌⊎◌, inl, inr, ⊎_elim, Bool, true, false, cond, List, [], ◌++◌, length, drop, refl, sym, arith, length-append}
use Rattle.std.specs.Prelude.{Some, None, nat_le, nat_lt}
use Rattle.std.proofs.Math.Seq.{take-append_seam}
use Rattle.std.proofs.lemmas.Bool.Decides.{nat_tests}
use Rattle.link_uri.specs.declared.heard.Reply.{Reply}
use Rattle.link_uri.specs.declared.heard.Heard.{Heard}
use Rattle.link_uri.specs.declared.heard.Heard.TheVariants as heard
use Rattle.link_uri.specs.Wanted.{is_wanted}
use Rattle.http_message.specs.declared.framing.Framing.TheVariants.{Sized}
use Rattle.http_message.specs.Facts.{facts_of}
use Rattle.http_message.specs.Chunks.{BodyRead, whole_body, bad_body, long_body, part_body}
use Rattle.http_message.specs.Body.{decided, undecided, with_body, body_from}
use Rattle.http_message.specs.Reading.{Found, waiting, no_head, final_head, Reads, progress_after}

chosen : {A : Type 0} (b : Bool) (x y z : A) → cond b x y ≡ z → ((b ≡ true) × (x ≡ z)) ⊎ ((b ≡ false) × (y ≡ z))
chosen true x y z e = inl (refl, e)
chosen false x y z e = inr (refl, e)

body_heard : (r : Reply) (b : BodyRead) (h : Heard) → with_body r b ≡ decided h → h ≢ heard.Never
body_heard r (whole_body body) h e q = cc
body_heard r bad_body h e q = cc
body_heard r long_body h e q = cc
body_heard r (part_body body) h e q = cc

body_ended : (r : Reply) (b : BodyRead) (h : Heard) → with_body r b ≡ undecided (Some h) → h ≢ heard.Never
body_ended r (whole_body body) h e q = cc
body_ended r bad_body h e q = cc
body_ended r long_body h e q = cc
body_ended r (part_body None) h e q = cc
body_ended r (part_body (Some body)) h e q = cc

found_heard : (limit : ℕ) (bytes : List ℕ) (found : Found) (h : Heard) → progress_after limit bytes found ≡ decided h → h ≢ heard.Never
found_heard limit bytes waiting h e q =
    ⊎_elim (λ w. let bad = w.1 in cc) (λ w. let open_yet = w.1 in cc) (chosen (nat_lt 65536 (length bytes)) (decided heard.Malformed) (undecided None) (decided h) e)
found_heard limit bytes no_head h e q = cc
found_heard limit bytes (final_head head rest) h e q =
    let f = facts_of head in
    body_heard f.reply (cond (is_wanted f.reply) (body_from f.framing limit (rest ++ drop 65536 bytes)) (whole_body [])) h e q

found_ended : (limit : ℕ) (bytes : List ℕ) (found : Found) (h : Heard) → progress_after limit bytes found ≡ undecided (Some h) → h ≢ heard.Never
found_ended limit bytes waiting h e q =
    ⊎_elim (λ w. let bad = w.1 in cc) (λ w. let open_yet = w.1 in cc) (chosen (nat_lt 65536 (length bytes)) (decided heard.Malformed) (undecided None) (undecided (Some h)) e)
found_ended limit bytes no_head h e q = cc
found_ended limit bytes (final_head head rest) h e q =
    let f = facts_of head in
    body_ended f.reply (cond (is_wanted f.reply) (body_from f.framing limit (rest ++ drop 65536 bytes)) (whole_body [])) h e q

pub decided_never : (limit : ℕ) (bytes : List ℕ) (h : Heard) → Reads limit bytes (decided h) → h ≢ heard.Never
decided_never limit bytes h r = found_heard limit bytes r.found h (sym r.gives)

pub ended_never : (limit : ℕ) (bytes : List ℕ) (h : Heard) → Reads limit bytes (undecided (Some h)) → h ≢ heard.Never
ended_never limit bytes h r = found_ended limit bytes r.found h (sym r.gives)

pub stated_length : (body more : List ℕ) (limit : ℕ) → length body ≤ limit → body_from (Sized (length body)) limit (body ++ more) ≡ whole_body body
stated_length body more limit room =
    let fits : nat_lt limit (length body) ≡ false = grind (arith, nat_tests) in
    let here : nat_le (length body) (length (body ++ more)) ≡ true = rw length-append (grind (arith, nat_tests)) in
    rw (fits, here, take-append_seam) refl

-- How the reading of a body goes on after some bytes.
use Rattle.std.proofs.Common.{◌≡◌, ℕ, ◌+◌, ◌-◌, ◌<◌, ◌≤◌, true, false, List, [], ◌∷◌, ◌++◌, length, take, drop, get_or, refl, sym, ap, ◌∙◌, subst, arith, length-append, append_assoc, append-nil}
use Rattle.std.specs.Prelude.{Option, Some, None, option_map, nat_le, nat_lt, ◌==◌}
use Rattle.std.proofs.Math.Seq.{take-append-add, take-add, take-append_seam, take-length}
use Rattle.std.proofs.lemmas.Bool.Decides.{nat_tests}
use Rattle.std.proofs.lemmas.Grind.{common_steps}
use Rattle.std.proofs.lemmas.List.{length-take-le, take-append-le, take-append-drop}
use Rattle.link_uri.specs.declared.heard.Reply.{Reply}
use Rattle.link_uri.specs.declared.heard.Heard.{Heard}
use Rattle.http_message.specs.declared.stages.BodyStage.{BodyStage}
use Rattle.http_message.specs.declared.stages.BodyStage.TheVariants as stage
use Rattle.http_message.specs.declared.stages.Outcome.{Outcome}
use Rattle.http_message.specs.declared.stages.Outcome.TheVariants.{TooLong}
use Rattle.http_message.specs.Chunks.{long_body, part_body, chunked, data_place, in_data}
use Rattle.http_message.specs.Body.{undecided, sized, until_end, with_body, replied}
use Rattle.http_message.specs.LineStates.{lined}
use Rattle.http_message.specs.State.{BodyState, Grows, Steps, Continues, resume_at, IsOpen, is_decided, progress_from}

same_test : (n k m : ℕ) → nat_le (n + k) (n + m) ≡ nat_le k m
same_test n k m = grind (arith, nat_tests)

pub sized_more : (k : ℕ) (body xs more : List ℕ) → sized (length xs + k) body (xs ++ more) ≡ sized k (body ++ xs) more
sized_more k body xs more =
    let test : nat_le (length xs + k) (length (xs ++ more)) ≡ nat_le k (length more) = rw length-append (same_test (length xs) k (length more)) in
    rw (test, take-append-add) (rw append_assoc refl)

pub data_more : (xs : List ℕ) (limit left : ℕ) (body more : List ℕ) → length body + length xs ≤ limit → length xs ≤ left
    → chunked limit (data_place left) body (xs ++ more) ≡ chunked limit (data_place (left - length xs)) (body ++ xs) more
unfolding chunked
data_more [] limit left body more room within = let same : left - 0 ≡ left = omega arith in rw (same, append-nil body) refl
data_more (x ∷ xs) limit left body more room within =
    let some : (left == 0) ≡ false = grind (arith, nat_tests) in
    let fits : nat_le limit (length body) ≡ false = grind (arith, nat_tests) in
    let later = data_more xs limit (left - 1) (body ++ x ∷ []) more (simp length-append (omega arith)) (omega arith) in
    let places : left - 1 - length xs ≡ left - length (x ∷ xs) = omega arith in
    rw (some, fits) (later ∙ rw (places, append_assoc) refl)

pub data_over : (xs : List ℕ) (limit left : ℕ) (body more : List ℕ) → limit < length body + length xs → 0 < length xs → length xs ≤ left
    → chunked limit (data_place left) body (xs ++ more) ≡ long_body
unfolding chunked
data_over [] limit left body more past some within = absurd (omega arith)
data_over (x ∷ xs) limit left body more past some within =
    let any : (left == 0) ≡ false = grind (arith, nat_tests) in
    elim (nat_le limit (length body)) as (λ t. nat_le limit (length body) ≡ t → chunked limit (data_place left) body ((x ∷ xs) ++ more) ≡ long_body) [
      | true ↦ λ e. rw (any, e) refl
      | false ↦ λ e.
          let room : length body < limit = grind (arith, nat_tests) in
          rw (any, e) (data_over xs limit (left - 1) (body ++ x ∷ []) more (simp length-append (omega arith)) (omega arith) (omega arith))
    ] refl

-- ---- one step

grows_by : (limit : ℕ) (reply : Reply) (body xs : List ℕ) (s t : BodyStage)
    → Grows (record { limit = limit; stage = s; reply = reply; body = body }) (record { limit = limit; stage = t; reply = reply; body = body ++ xs })
grows_by limit reply body xs s t = record { limit = refl; reply = refl; longer = simp length-append (omega arith); kept = take-append_seam body xs }

-- the body grew by these bytes, and what it comes to is the same
steps_by : (limit : ℕ) (reply : Reply) (body xs body' : List ℕ) (s t : BodyStage) (piece : List ℕ) (n : ℕ) → 0 < n → n ≤ length piece → body' ≡ body ++ xs
    → ((more : List ℕ) → resume_at s limit body (take n piece ++ more) ≡ resume_at t limit (body ++ xs) more)
    → Steps (record { limit = limit; stage = s; reply = reply; body = body }) piece n (record { limit = limit; stage = t; reply = reply; body = body' })
steps_by limit reply body xs body' s t piece n some within grown next =
    subst (λ (b : List ℕ). Steps (record { limit = limit; stage = s; reply = reply; body = body }) piece n (record { limit = limit; stage = t; reply = reply; body = b })) (sym grown)
    (record {
      some = some;
      within = within;
      next = λ more. ap (with_body reply) (next more);
      grows = grows_by limit reply body xs s t;
    })

one_byte : (xs more : List ℕ) → 0 < length xs → take 1 xs ++ more ≡ get_or xs 0 0 ∷ more
one_byte [] more h = absurd (omega arith)
one_byte (x ∷ xs) more h = grind (arith, common_steps)

-- a byte that is none of the body
pub byte_steps : (limit : ℕ) (reply : Reply) (body : List ℕ) (s t : BodyStage) (piece : List ℕ) → 0 < length piece
    → ((more : List ℕ) → resume_at s limit body (get_or piece 0 0 ∷ more) ≡ resume_at t limit body more)
    → Steps (record { limit = limit; stage = s; reply = reply; body = body }) piece 1 (record { limit = limit; stage = t; reply = reply; body = body })
byte_steps limit reply body s t piece some next =
    steps_by limit reply body [] body s t piece 1 (omega arith) (omega arith) (sym (append-nil body))
    (λ more. ap (resume_at s limit body) (one_byte piece more some) ∙ next more ∙ ap (λ b. resume_at t limit b more) (sym (append-nil body)))

pub sized_steps : (limit : ℕ) (reply : Reply) (body body' : List ℕ) (s t : BodyStage) (left n : ℕ) (piece : List ℕ) → s ≡ stage.Sized left → 0 < n → n ≤ length piece → n ≤ left
    → body' ≡ body ++ take n piece
    → ((body more : List ℕ) (limit : ℕ) → sized (left - n) body more ≡ resume_at t limit body more)
    → Steps (record { limit = limit; stage = s; reply = reply; body = body }) piece n (record { limit = limit; stage = t; reply = reply; body = body' })
sized_steps limit reply body body' s t left n piece q some within most grown next =
    let taken : length (take n piece) ≡ n = length-take-le n piece within in
    let whole : left ≡ length (take n piece) + (left - n) = omega (arith, taken) in
    steps_by limit reply body (take n piece) body' s t piece n some within grown (λ more.
    ap (λ s. resume_at s limit body (take n piece ++ more)) q
    ∙ ap (λ k. sized k body (take n piece ++ more)) whole
    ∙ sized_more (left - n) body (take n piece) more
    ∙ next (body ++ take n piece) more limit)

data_is_place : (left limit : ℕ) (body more : List ℕ) → 0 < left → chunked limit (in_data left) body more ≡ chunked limit (data_place left) body more
data_is_place left limit body more some =
    let no : (left == 0) ≡ false = grind (arith, nat_tests) in
    rw no refl

pub data_steps : (limit : ℕ) (reply : Reply) (body body' : List ℕ) (s t : BodyStage) (left n : ℕ) (piece : List ℕ) → s ≡ stage.Data left → 0 < n → n ≤ length piece → n ≤ left
    → length body + n ≤ limit
    → body' ≡ body ++ take n piece
    → ((body more : List ℕ) (limit : ℕ) → chunked limit (data_place (left - n)) body more ≡ resume_at t limit body more)
    → Steps (record { limit = limit; stage = s; reply = reply; body = body }) piece n (record { limit = limit; stage = t; reply = reply; body = body' })
data_steps limit reply body body' s t left n piece q some within most room grown next =
    let taken : length (take n piece) ≡ n = length-take-le n piece within in
    let rest : left - length (take n piece) ≡ left - n = omega (arith, taken) in
    steps_by limit reply body (take n piece) body' s t piece n some within grown (λ more.
    ap (λ s. resume_at s limit body (take n piece ++ more)) q
    ∙ data_is_place left limit body (take n piece ++ more) (omega arith)
    ∙ data_more (take n piece) limit left body more (omega (arith, taken)) (omega (arith, taken))
    ∙ ap (λ k. chunked limit (data_place k) (body ++ take n piece) more) rest
    ∙ next (body ++ take n piece) more limit)

pub over_steps : (limit : ℕ) (reply : Reply) (body : List ℕ) (s : BodyStage) (left n : ℕ) (piece : List ℕ) → s ≡ stage.Data left → 0 < n → n ≤ length piece → n ≤ left
    → limit < length body + n
    → Steps (record { limit = limit; stage = s; reply = reply; body = body }) piece n (record { limit = limit; stage = stage.Decided TooLong; reply = reply; body = body })
over_steps limit reply body s left n piece q some within most past =
    let taken : length (take n piece) ≡ n = length-take-le n piece within in
    steps_by limit reply body [] body s (stage.Decided TooLong) piece n some within (sym (append-nil body)) (λ more.
    ap (λ s. resume_at s limit body (take n piece ++ more)) q
    ∙ data_is_place left limit body (take n piece ++ more) (omega arith)
    ∙ data_over (take n piece) limit left body more (omega (arith, taken)) (omega (arith, taken)) (omega (arith, taken)))

-- ---- many steps

pub continues_more : (old mid new : BodyState) (piece : List ℕ) (at n : ℕ) → Continues old (take at piece) mid → Continues mid (take n (drop at piece)) new → Continues old (take (at + n) piece) new
continues_more old mid new piece at n a b = λ more. rw (take-add at n piece, append_assoc) (a (take n (drop at piece) ++ more) ∙ b more)

pub grows_none : (s : BodyState) → Grows s s
grows_none s = record { limit = refl; reply = refl; longer = omega arith; kept = take-length s.body }

pub take_take : (n most : ℕ) (xs : List ℕ) → most ≤ length xs → n ≤ most → take n (take most xs) ≡ take n xs
take_take n most xs within less =
    let long : n ≤ length (take most xs) = rw (length-take-le most xs within) less in
    sym (take-append-le n (take most xs) (drop most xs) long) ∙ ap (take n) (take-append-drop most xs)

pub grows_more : (a b c : BodyState) → Grows a b → Grows b c → Grows a c
grows_more a b c x y = record {
  limit = y.limit ∙ x.limit;
  reply = y.reply ∙ x.reply;
  longer = omega (arith, x.longer, y.longer);
  kept = sym (take_take (length a.body) (length b.body) c.body y.longer x.longer) ∙ ap (take (length a.body)) y.kept ∙ x.kept;
}

-- ---- undecided bodies

part_of : (s : BodyStage) (body : List ℕ) (limit : ℕ) → IsOpen s limit body → ((o : Outcome) → s ≡ stage.Decided o → ⊥) → (o : Option (List ℕ)) × (resume_at s limit body [] ≡ part_body o)
unfolding chunked lined
part_of (stage.Sized left) body limit stays none = (None, let no : nat_le left 0 ≡ false = grind (arith, nat_tests) in rw no refl)
part_of stage.UntilEnd body limit stays none = (Some (body ++ []), let no : nat_lt limit (length body + 0) ≡ false = grind (arith, nat_tests) in rw no refl)
part_of (stage.Line line seen) body limit stays none = (None, refl)
part_of (stage.Data left) body limit stays none = (None, refl)
part_of stage.AfterData body limit stays none = (None, refl)
part_of stage.AfterCr body limit stays none = (None, refl)
part_of (stage.Trailers place seen) body limit stays none = (None, refl)
part_of (stage.Decided o) body limit stays none = absurd (none o refl)

pub undecided_yet : (limit : ℕ) (reply : Reply) (body : List ℕ) (s : BodyStage) → IsOpen s limit body → ((o : Outcome) → s ≡ stage.Decided o → ⊥)
    → (ended : Option Heard) × (progress_from (record { limit = limit; stage = s; reply = reply; body = body }) [] ≡ undecided ended)
undecided_yet limit reply body s stays none =
    let o = part_of s body limit stays none in
    (option_map (replied reply) o.0, ap (with_body reply) o.1)

pub not_decided : (s : BodyStage) → ((o : Outcome) → s ≡ stage.Decided o → ⊥) → is_decided s ≡ false
not_decided (stage.Sized left) none = refl
not_decided stage.UntilEnd none = refl
not_decided (stage.Line line seen) none = refl
not_decided (stage.Data left) none = refl
not_decided stage.AfterData none = refl
not_decided stage.AfterCr none = refl
not_decided (stage.Trailers place seen) none = refl
not_decided (stage.Decided o) none = absurd (none o refl)

-- a body of which nothing is left is open where it was
pub empty_open : (s : BodyStage) (body kept : List ℕ) (limit : ℕ) → kept ≡ [] → IsOpen s limit body → IsOpen s limit kept
empty_open (stage.Sized left) body kept limit none stays = stays
empty_open stage.UntilEnd body kept limit none stays = rw none (omega arith)
empty_open (stage.Line line seen) body kept limit none stays = stays
empty_open (stage.Data left) body kept limit none stays = stays
empty_open stage.AfterData body kept limit none stays = tt
empty_open stage.AfterCr body kept limit none stays = tt
empty_open (stage.Trailers place seen) body kept limit none stays = stays
empty_open (stage.Decided o) body kept limit none stays = tt

-- a body that is undecided, and that the end does not end, is cut by it
cut_at : (s : BodyStage) (body : List ℕ) (limit : ℕ) → IsOpen s limit body → is_decided s ≡ false → (s ≡ stage.UntilEnd → ⊥) → resume_at s limit body [] ≡ part_body None
unfolding chunked lined
cut_at (stage.Sized left) body limit stays going other = let big : nat_le left 0 ≡ false = grind (arith, nat_tests) in rw big refl
cut_at stage.UntilEnd body limit stays going other = absurd (other refl)
cut_at (stage.Line line seen) body limit stays going other = refl
cut_at (stage.Data left) body limit stays going other = refl
cut_at stage.AfterData body limit stays going other = refl
cut_at stage.AfterCr body limit stays going other = refl
cut_at (stage.Trailers place seen) body limit stays going other = refl
cut_at (stage.Decided o) body limit stays going other = absurd (cc)

pub cut_of : (limit : ℕ) (reply : Reply) (body : List ℕ) (s : BodyStage) → IsOpen s limit body → is_decided s ≡ false → (s ≡ stage.UntilEnd → ⊥)
    → progress_from (record { limit = limit; stage = s; reply = reply; body = body }) [] ≡ undecided None
cut_of limit reply body s stays going other = ap (with_body reply) (cut_at s body limit stays going other)

all_came : (limit : ℕ) (body : List ℕ) → length body ≤ limit → until_end limit body [] ≡ part_body (Some body)
all_came limit body room =
    let fits : nat_lt limit (length body + 0) ≡ false = grind (arith, nat_tests) in
    rw (fits, append-nil) refl

-- a body that the end of the input ends is what has come
pub ended_of : (limit : ℕ) (reply : Reply) (body : List ℕ) (s : BodyStage) → IsOpen s limit body → s ≡ stage.UntilEnd
    → progress_from (record { limit = limit; stage = s; reply = reply; body = body }) [] ≡ undecided (Some (replied reply body))
ended_of limit reply body s stays q =
    ap (λ t. with_body reply (resume_at t limit body [])) q ∙ ap (with_body reply) (all_came limit body (subst (λ t. IsOpen t limit body) q stays))

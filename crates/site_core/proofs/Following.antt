-- What is found at a line stays, whatever follows the bytes.
use Rattle.std.proofs.Common.{◌≡◌, ℕ, ◌+◌, ◌^◌, ◌<◌, ◌≤◌, suc, zero, List, [], ◌∷◌, ◌++◌, length, take, drop, true, false, Some, None, Ok, Err, refl, sym, ap, ◌∙◌, subst, arith, rules, append-nil, length-append, length-drop}
use Rattle.std.specs.Prelude.{◌==◌, option_map, position, unwrap_or, if◌then◌else◌}
use Rattle.std.proofs.lemmas.Bool.{cond-true, cond-false, cond_both}
use Rattle.std.proofs.lemmas.List.{drop-drop, drop-append-le, take-append-le, drop_all}
use Rattle.link_uri.specs.declared.heard.Reply.{Reply}
use Rattle.site_core.specs.declared.reading.Found.TheVariants as found
use Rattle.site_core.specs.declared.expected.Expected.{Expected}
use Rattle.site_core.specs.declared.expected.Expected.TheVariants.{First, Between}
use Rattle.site_core.specs.declared.expected.Step.{Step}
use Rattle.site_core.specs.declared.expected.Step.TheVariants.{Misfit, Next, Finished, Body}
use Rattle.site_core.specs.Capped.{capped, capped_number}
use Rattle.site_core.specs.declared.reading.Body.{Body as Behind}
use Rattle.site_core.specs.Endings.{Finds, HasBody, IsCutBody, LeadsTo}
use Rattle.std.proofs.lemmas.Option.{slice_get_past}
use Rattle.site_core.specs.Fields.{is_lf}
use Rattle.site_core.specs.Lines.{step}
use Rattle.site_core.specs.Places.{Answer, On, Reads, Shows, is_lf_at, look, look_behind, look_body, look_line, look_step, reads_end, reads_on}
use Rattle.site_core.specs.Text.{Entry, site_limit}
use Rattle.site_core.proofs.Sound.{Fits, fits_on}
use Rattle.site_core.proofs.Ends.{position-append, split_line}

pub look-more : (done : List Entry) (expected : Expected) (at : ℕ) (rest more : List ℕ) (n : ℕ) → position is_lf rest ≡ Some n → look done expected at (rest ++ more) ≡ look_step done at (at + suc n) (drop (suc n) rest ++ more) (step done expected (take n rest))
look-more done expected at rest more n found =
    let within = (split_line rest n found).0 in
    ap (look_line done expected at (rest ++ more)) (position-append rest more n found)
    ∙ ap (λ bs. look_step done at (at + suc n) bs (step done expected (take n (rest ++ more)))) (drop-append-le (suc n) rest more (omega arith))
    ∙ ap (λ bs. look_step done at (at + suc n) (drop (suc n) rest ++ more) (step done expected bs)) (take-append-le n rest more (omega arith))

-- a line and its step, as the code has read them
pub record LineRead (done : List Entry) (expected : Expected) (at : ℕ) (bytes : List ℕ) (n : ℕ) (s : Step) : Type 0 where
  pub ends : position is_lf (drop at bytes) ≡ Some n
  pub steps : s ≡ capped (step done expected (take n (drop at bytes)))

pub line_read : (done slice : List Entry) (expected : Expected) (at : ℕ) (bytes rest front : List ℕ) (n : ℕ) (f s : Step) → rest ≡ drop at bytes → Some n ≡ position is_lf rest → front ≡ take n rest → slice ≡ done → f ≡ capped (step slice expected front) → f ≡ s → LineRead done expected at bytes n s
line_read done slice expected at bytes rest front n f s is_rest ends is_front is_done steps is = record {
  ends = ap (position is_lf) (sym is_rest) ∙ sym ends;
  steps = sym is ∙ steps ∙ ap (λ (d : List Entry). capped (step d expected front)) is_done ∙ ap (λ (l : List ℕ). capped (step done expected l)) (is_front ∙ ap (take n) is_rest);
}

-- ---- the step as the code has it

step_misfit : (s : Step) → Misfit ≡ capped s → s ≡ Misfit
step_misfit Misfit e = refl
step_misfit (Next expected) e = absurd cc
step_misfit Finished e = absurd cc
step_misfit (Body link reply n) e = absurd cc

step_next : (s : Step) (expected : Expected) → Next expected ≡ capped s → s ≡ Next expected
step_next Misfit expected e = absurd cc
step_next (Next other) expected e = sym e
step_next Finished expected e = absurd cc
step_next (Body link reply n) expected e = absurd cc

step_finished : (s : Step) → Finished ≡ capped s → s ≡ Finished
step_finished Misfit e = absurd cc
step_finished (Next expected) e = absurd cc
step_finished Finished e = refl
step_finished (Body link reply n) e = absurd cc

step_body : (s : Step) (link : List ℕ) (reply : Reply) (n : ℕ) → Body link reply n ≡ capped s → (m : ℕ) × (s ≡ Body link reply m) × (n ≡ capped_number m)
step_body Misfit link reply n e = absurd cc
step_body (Next expected) link reply n e = absurd cc
step_body Finished link reply n e = absurd cc
step_body (Body link' reply' m) link reply n e =
    let same_link : link' ≡ link = cc in
    let same_reply : reply' ≡ reply = cc in
    let same_size : n ≡ capped_number m = cc in (
      m,
      (let P : List ℕ → Reply → Type 0 = λ l r. Body link' reply' m ≡ Body l r m in
          subst (λ (l : List ℕ). P l reply) same_link (subst (λ (r : Reply). P link' r) same_reply refl)),
      same_size,
    )

-- ---- what the code finds at a line, with the bytes from it on

rest_at : (bytes : List ℕ) (at n : ℕ) → drop (suc n) (drop at bytes) ≡ drop (at + suc n) bytes
rest_at bytes at n = drop-drop (suc n) at bytes

pub finds_misfit : (done : List Entry) (expected : Expected) (at : ℕ) (bytes : List ℕ) (n : ℕ) → position is_lf (drop at bytes) ≡ Some n → Misfit ≡ capped (step done expected (take n (drop at bytes))) → Finds done expected at bytes done (found.Fault at)
finds_misfit done expected at bytes n ends is more =
    let rest = drop at bytes in
    look-more done expected at rest more n ends ∙ ap (look_step done at (at + suc n) (drop (suc n) rest ++ more)) (step_misfit (step done expected (take n rest)) is)

pub finds_next : (done : List Entry) (expected : Expected) (at : ℕ) (bytes : List ℕ) (n : ℕ) (next_spot : Expected) (next : ℕ) → next ≡ at + suc n → position is_lf (drop at bytes) ≡ Some n → Next next_spot ≡ capped (step done expected (take n (drop at bytes))) → Finds done expected at bytes done (found.Line next_spot next)
finds_next done expected at bytes n next_spot next is_next ends is =
    let rest = drop at bytes in
    let within = (split_line rest n ends).0 in (
      omega arith,
      omega (arith, length-drop at bytes, within),
      λ more. look-more done expected at rest more n ends ∙ ap (look_step done at (at + suc n) (drop (suc n) rest ++ more)) (step_next (step done expected (take n rest)) next_spot is)
          ∙ ap (λ bs. On done next_spot (at + suc n) (bs ++ more)) (rest_at bytes at n) ∙ ap (λ k. On done next_spot k (drop k bytes ++ more)) (sym is_next),
    )

same_size : (n : ℕ) → (n == n) ≡ false → ⊥
same_size n other = let same : (n == n) ≡ true = search rules in cc

some_left : (bytes : List ℕ) (next : ℕ) → next ≤ length bytes → (next == length bytes) ≡ false → 0 < length (drop next bytes)
some_left bytes next within other =
    let apart : next ≡ length bytes → ⊥ = λ same. (let P : ℕ → Type 0 = λ k. (k == length bytes) ≡ false in same_size (length bytes) (subst P same other)) in
    omega (arith, length-drop next bytes)

behind_last : (done : List Entry) (at : ℕ) (rest more : List ℕ) → 0 < length rest → look_behind done at (rest ++ more) ≡ Answer (Err at)
behind_last done at [] more left = absurd (omega arith)
behind_last done at (b ∷ rest) more left = refl

pub finds_last : (done : List Entry) (expected : Expected) (at : ℕ) (bytes : List ℕ) (n next : ℕ) → next ≡ at + suc n → position is_lf (drop at bytes) ≡ Some n → Finished ≡ capped (step done expected (take n (drop at bytes))) → Finds done expected at bytes done (if next == length bytes then found.Last else found.Fault next)
finds_last done expected at bytes n next is_next ends is =
    let rest = drop at bytes in
    let within = (split_line rest n ends).0 in
    let finishes : (more : List ℕ) → look done expected at (rest ++ more) ≡ look_behind done next (drop next bytes ++ more) =
    λ more. look-more done expected at rest more n ends ∙ ap (look_step done at (at + suc n) (drop (suc n) rest ++ more)) (step_finished (step done expected (take n rest)) is)
    ∙ ap (λ bs. look_behind done (at + suc n) (bs ++ more)) (rest_at bytes at n) ∙ ap (λ k. look_behind done k (drop k bytes ++ more)) (sym is_next) in
    cond_both (next == length bytes) found.Last (found.Fault next) (Finds done expected at bytes done)
    (λ same.
    let all : next ≡ length bytes = search (rules, same) in
    let none : drop next bytes ++ [] ≡ [] = append-nil (drop next bytes) ∙ drop_all next bytes (omega arith) in
    ap (look done expected at) (sym (append-nil rest)) ∙ finishes [] ∙ ap (look_behind done next) none)
    (λ other more.
    let left : 0 < length (drop next bytes) = some_left bytes next (omega (arith, length-drop at bytes, within)) other in
    finishes more ∙ behind_last done next (drop next bytes) more left)

pub finds_unended : (done : List Entry) (expected : Expected) (at : ℕ) (bytes : List ℕ) → position is_lf (drop at bytes) ≡ None → Finds done expected at bytes done (found.Unended expected)
finds_unended done expected at bytes ends = (refl, refl, ends)

is_lf_at-append : (bytes more : List ℕ) (n : ℕ) → n < length bytes → is_lf_at (bytes ++ more) n ≡ is_lf_at bytes n
is_lf_at-append [] more n within = absurd (omega arith)
is_lf_at-append (b ∷ bytes) more zero within = refl
is_lf_at-append (b ∷ bytes) more (suc n) within = is_lf_at-append bytes more n (omega arith)

-- behind a `body` line
body_step : (done : List Entry) (expected : Expected) (at : ℕ) (bytes : List ℕ) (n next : ℕ) (link : List ℕ) (reply : Reply) (size : ℕ) → length (drop next bytes) < 2 ^ 64 → next ≡ at + suc n → position is_lf (drop at bytes) ≡ Some n → Body link reply size ≡ capped (step done expected (take n (drop at bytes)))
    → size < length (drop next bytes) → (more : List ℕ) → look done expected at (drop at bytes ++ more) ≡ look_body done at next (drop next bytes ++ more) link reply size
body_step done expected at bytes n next link reply size small is_next ends is within more =
    let rest = drop at bytes in
    let stepped = step_body (step done expected (take n rest)) link reply size is in
    let same_size : stepped.0 ≡ size = (let cap = stepped.2 in omega arith) in
    look-more done expected at rest more n ends
    ∙ ap (look_step done at (at + suc n) (drop (suc n) rest ++ more)) (stepped.1 ∙ ap (λ k. Body link reply k) same_size)
    ∙ ap (λ bs. look_body done at (at + suc n) (bs ++ more) link reply size) (rest_at bytes at n)
    ∙ ap (λ k. look_body done at k (drop k bytes ++ more) link reply size) (sym is_next)

pub finds_body : (done new : List Entry) (expected : Expected) (at : ℕ) (bytes : List ℕ) (n next : ℕ) (link : List ℕ) (reply full : Reply) (size next_line : ℕ) (body : List ℕ) → length (drop next bytes) < 2 ^ 64 → next ≡ at + suc n → position is_lf (drop at bytes) ≡ Some n → Body link reply size ≡ capped (step done expected (take n (drop at bytes)))
    → size < length (drop next bytes) → is_lf_at (drop next bytes) size ≡ true → body ≡ take size (drop next bytes) → full ≡ record reply { body = body } → new ≡ done ++ (link, full) ∷ [] → next_line ≡ next + suc size → Finds done expected at bytes new (found.Line Between next_line)
finds_body done new expected at bytes n next link reply full size next_line body small is_next ends is within lf is_body is_full is_new is_next_line =
    let behind = drop next bytes in
    let whole = record reply { body = take size behind } in
    let done_is : done ++ (link, whole) ∷ [] ≡ new =
    ap (λ (b : List ℕ). done ++ (link, record reply { body = b }) ∷ []) (sym is_body) ∙ ap (λ (r : Reply). done ++ (link, r) ∷ []) (sym is_full) ∙ sym is_new in (
      omega arith,
      omega (arith, length-drop next bytes, within),
      λ more.
          body_step done expected at bytes n next link reply size small is_next ends is within more
          ∙ cond-true (is_lf_at (behind ++ more) size) (On (done ++ (link, record reply { body = take size (behind ++ more) }) ∷ []) Between (next + suc size) (drop (suc size) (behind ++ more))) (Answer (Err at)) (is_lf_at-append behind more size within ∙ lf)
          ∙ ap (λ (b : List ℕ). On (done ++ (link, record reply { body = b }) ∷ []) Between (next + suc size) (drop (suc size) (behind ++ more))) (take-append-le size behind more (omega arith))
          ∙ ap (λ bs. On (done ++ (link, whole) ∷ []) Between (next + suc size) bs) (drop-append-le (suc size) behind more (omega arith))
          ∙ ap (λ bs. On (done ++ (link, whole) ∷ []) Between (next + suc size) (bs ++ more)) (rest_at bytes next size)
          ∙ ap (λ ds. On ds Between (next + suc size) (drop (next + suc size) bytes ++ more)) done_is
          ∙ ap (λ k. On new Between k (drop k bytes ++ more)) (sym is_next_line),
    )

pub finds_bad_body : (done : List Entry) (expected : Expected) (at : ℕ) (bytes : List ℕ) (n next : ℕ) (link : List ℕ) (reply : Reply) (size : ℕ) → length (drop next bytes) < 2 ^ 64 → next ≡ at + suc n → position is_lf (drop at bytes) ≡ Some n → Body link reply size ≡ capped (step done expected (take n (drop at bytes)))
    → size < length (drop next bytes) → is_lf_at (drop next bytes) size ≡ false → Finds done expected at bytes done (found.Fault at)
finds_bad_body done expected at bytes n next link reply size small is_next ends is within lf more =
    let behind = drop next bytes in
    body_step done expected at bytes n next link reply size small is_next ends is within more
    ∙ cond-false (is_lf_at (behind ++ more) size) (On (done ++ (link, record reply { body = take size (behind ++ more) }) ∷ []) Between (next + suc size) (drop (suc size) (behind ++ more))) (Answer (Err at)) (is_lf_at-append behind more size within ∙ lf)

pub finds_cut : (done : List Entry) (expected : Expected) (at : ℕ) (bytes : List ℕ) (n next : ℕ) (link : List ℕ) (reply : Reply) (size : ℕ) → next ≡ at + suc n → position is_lf (drop at bytes) ≡ Some n → Body link reply size ≡ capped (step done expected (take n (drop at bytes)))
    → length (drop next bytes) ≤ size → Finds done expected at bytes done found.Cut
finds_cut done expected at bytes n next link reply size is_next ends is short =
    let stepped = step_body (step done expected (take n (drop at bytes))) link reply size is in (
      refl,
      record {
        line = n;
        link = link;
        reply = reply;
        size = stepped.0;
        ends = ends;
        body = stepped.1;
        short = (let e = ap length (rest_at bytes at n) in let f = ap (λ k. length (drop k bytes)) is_next in let g = stepped.2 in omega arith);
      },
    )

-- what stands behind a `body` line, as the code has read it
pub at_rest : (bytes rest : List ℕ) (next size : ℕ) (f g : Behind) → rest ≡ drop next bytes → f ≡ g → HasBody rest size f → HasBody (drop next bytes) size g
at_rest bytes rest next size f g is_rest is has =
    let P : List ℕ → Type 0 = λ bs. HasBody bs size f in
    let Q : Behind → Type 0 = HasBody (drop next bytes) size in
    subst Q is (subst P is_rest has)

pub small_rest : (bytes rest : List ℕ) (next : ℕ) → rest ≡ drop next bytes → length rest < 2 ^ 64 → length (drop next bytes) < 2 ^ 64
small_rest bytes rest next is_rest small = let P : List ℕ → Type 0 = λ bs. length bs < 2 ^ 64 in subst P is_rest small

-- ---- all lines

-- a line leads on
pub leads_on : (bytes : List ℕ) (done new : List Entry) (expected next_spot : Expected) (at next : ℕ) → LeadsTo bytes done expected at → Finds done expected at bytes new (found.Line next_spot next) → LeadsTo bytes new next_spot next
leads_on bytes done new expected next_spot at next leads line more answer reads = leads more answer (reads_on (line.2 more) reads)

-- an allowed line leaves the entries a site
pub fits_next : (bytes : List ℕ) (done new : List Entry) (expected next_spot : Expected) (at next : ℕ) → length bytes ≤ site_limit → Fits done expected → Finds done expected at bytes new (found.Line next_spot next) → Fits new next_spot
fits_next bytes done new expected next_spot at next within fits line =
    let rest = drop at bytes ++ [] in
    fits_on done new expected next_spot at next rest (drop next bytes ++ []) (omega (arith, within, length-append (drop at bytes) [], length-drop at bytes)) fits (line.2 [])

pub leads_whole : (bytes : List ℕ) (done new : List Entry) (expected : Expected) (at : ℕ) → LeadsTo bytes done expected at → Finds done expected at bytes new found.Last → Reads [] First 0 bytes (Ok new)
leads_whole bytes done new expected at leads last =
    let P : List ℕ → Type 0 = λ bs. Reads [] First 0 bs (Ok new) in
    let Q : List ℕ → Type 0 = λ bs. Reads done expected at bs (Ok new) in
    subst P (append-nil bytes) (leads [] (Ok new) (subst Q (sym (append-nil (drop at bytes))) (reads_end last)))

pub leads_fault : (bytes : List ℕ) (done new : List Entry) (expected : Expected) (at place : ℕ) → LeadsTo bytes done expected at → Finds done expected at bytes new (found.Fault place) → Shows bytes place
leads_fault bytes done new expected at place leads fault more = leads more (Err place) (reads_end (fault more))

-- an ending that is a fault where nothing follows
pub leads_bad : (bytes : List ℕ) (done : List Entry) (expected : Expected) (at : ℕ) → LeadsTo bytes done expected at → look done expected at (drop at bytes) ≡ Answer (Err at) → Reads [] First 0 bytes (Err at)
leads_bad bytes done expected at leads bad =
    let P : List ℕ → Type 0 = λ bs. Reads [] First 0 bs (Err at) in
    let Q : List ℕ → Type 0 = λ bs. Reads done expected at bs (Err at) in
    subst P (append-nil bytes) (leads [] (Err at) (subst Q (sym (append-nil (drop at bytes))) (reads_end bad)))

pub unended_bad : (done : List Entry) (expected : Expected) (at : ℕ) (rest : List ℕ) → position is_lf rest ≡ None → look done expected at rest ≡ Answer (Err at)
unended_bad done expected at rest none = ap (look_line done expected at rest) none

past_end : (bytes : List ℕ) (n : ℕ) → length bytes ≤ n → is_lf_at bytes n ≡ false
past_end bytes n past = ap (λ o. unwrap_or (option_map is_lf o) false) (slice_get_past bytes n past)

pub cut_bad : (done : List Entry) (expected : Expected) (at : ℕ) (rest : List ℕ) → IsCutBody done expected rest → look done expected at rest ≡ Answer (Err at)
cut_bad done expected at rest cut =
    ap (look_line done expected at rest) cut.ends
    ∙ ap (look_step done at (at + suc cut.line) (drop (suc cut.line) rest)) cut.body
    ∙ cond-false (is_lf_at (drop (suc cut.line) rest) cut.size) (On (done ++ (cut.link, record cut.reply { body = take cut.size (drop (suc cut.line) rest) }) ∷ []) Between (at + suc cut.line + suc cut.size) (drop (suc cut.size) (drop (suc cut.line) rest))) (Answer (Err at)) (past_end (drop (suc cut.line) rest) cut.size cut.short)

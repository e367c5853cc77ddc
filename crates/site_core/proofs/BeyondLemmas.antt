-- The place of the fault in a file that goes on behind its first bytes.
use Rattle.std.proofs.Common.{◌≡◌, ℕ, ◌+◌, ◌-◌, ◌<◌, ◌≤◌, suc, List, [], ◌∷◌, ◌++◌, length, take, drop, None, Ok, Err, replicate, refl, sym, ap, ◌∙◌, subst, arith, append_assoc, length-append, inl, inr}
use Rattle.std.specs.Prelude.{true}
use Rattle.std.proofs.lemmas.Bool.{cond-true}
use Rattle.std.proofs.lemmas.List.{length-replicate}
use Rattle.site_core.specs.declared.expected.Expected.{Expected}
use Rattle.site_core.specs.declared.expected.Expected.TheVariants.{First, Between}
use Rattle.site_core.specs.Endings.{IsCutBody, LeadsTo}
use Rattle.site_core.specs.Places.{Answer, BeyondAt, FaultAt, Look, On, Reads, SiteBad, is_lf_at, look, look_body, look_step, reads_end, reads_on}
use Rattle.site_core.specs.Text.{Entry, SiteText, is_site_from, site_limit, site_text}
use Rattle.site_core.proofs.Ends.{drop_line}
use Rattle.site_core.proofs.Following.{cut_bad, leads_bad, look-more}
use Rattle.site_core.proofs.OneAnswer.{one_answer, shown_alone}
use Rattle.site_core.proofs.Printed.{lf_behind}

pub beyond_whole : (front : List ℕ) (entries : List Entry) → length front ≡ site_limit → Reads [] First 0 front (Ok entries) → BeyondAt front (length front)
beyond_whole front entries full reads =
    inr (full, λ place shown. let e = one_answer reads (shown_alone front place shown) in cc)

-- two continuations with other faults show none
pub none_shown : (front : List ℕ) (a b : ℕ) (more : List ℕ) → length front ≡ site_limit → FaultAt front a → FaultAt (front ++ more) b → a < b → BeyondAt front (length front)
none_shown front a b more full here later apart =
    inr (
      full,
      λ place shown.
          let first = one_answer here (shown_alone front place shown) in
          let second = one_answer later (shown more) in
          let same : a ≡ b = cc in
          omega arith,
    )

-- a body with zeros up to its size, and its line's end
look_filled : (done : List Entry) (expected : Expected) (at : ℕ) (rest : List ℕ) (cut : IsCutBody done expected rest) → (n : ℕ) → n ≡ cut.size - length (drop (suc cut.line) rest)
    → (new : List Entry) × (look done expected at (rest ++ (replicate n 0 ++ 10 ∷ [])) ≡ On new Between (at + suc cut.line + suc cut.size) [])
look_filled done expected at rest cut n is =
    let behind = drop (suc cut.line) rest in
    let more : List ℕ = replicate n 0 ++ 10 ∷ [] in
    let body = behind ++ replicate n 0 in
    let at_body = at + suc cut.line in
    let whole : behind ++ more ≡ body ++ 10 ∷ [] = sym (append_assoc behind (replicate n 0) (10 ∷ [])) in
    let sized : length body ≡ cut.size = (let short = cut.short in omega (arith, length-append behind (replicate n 0), length-replicate {A = ℕ} n 0)) in
    let size_of : ℕ → Look = λ k. look_body done at at_body (body ++ 10 ∷ []) cut.link cut.reply k in (
      done ++ (cut.link, record cut.reply { body = take (length body) (body ++ 10 ∷ []) }) ∷ [],
      look-more done expected at rest more cut.line cut.ends
          ∙ ap (look_step done at at_body (behind ++ more)) cut.body
          ∙ ap (λ bs. look_body done at at_body bs cut.link cut.reply cut.size) whole
          ∙ ap size_of (sym sized)
          ∙ cond-true (is_lf_at (body ++ 10 ∷ []) (length body)) (On (done ++ (cut.link, record cut.reply { body = take (length body) (body ++ 10 ∷ []) }) ∷ []) Between (at_body + suc (length body)) (drop (suc (length body)) (body ++ 10 ∷ []))) (Answer (Err at)) (lf_behind body [])
          ∙ ap (λ bs. On (done ++ (cut.link, record cut.reply { body = take (length body) (body ++ 10 ∷ []) }) ∷ []) Between (at_body + suc (length body)) bs) (drop_line body [] 10)
          ∙ ap (λ k. On (done ++ (cut.link, record cut.reply { body = take (length body) (body ++ 10 ∷ []) }) ∷ []) Between (at_body + suc k) []) sized,
    )

pub beyond_cut : (front : List ℕ) (done : List Entry) (expected : Expected) (at : ℕ) → length front ≡ site_limit → LeadsTo front done expected at → IsCutBody done expected (drop at front) → BeyondAt front (length front)
beyond_cut front done expected at full leads cut =
    let rest = drop at front in
    let n = cut.size - length (drop (suc cut.line) rest) in
    let more : List ℕ = replicate n 0 ++ 10 ∷ [] in
    let later = at + suc cut.line + suc cut.size in
    let filled = look_filled done expected at rest cut n refl in
    none_shown front at later more full
    (leads_bad front done expected at leads (cut_bad done expected at rest cut))
    (leads more (Err later) (reads_on filled.1 (reads_end refl)))
    (omega arith)

-- ---- both lengths

pub bad_within : (bytes : List ℕ) (a b : ℕ) → length bytes ≤ site_limit → FaultAt bytes a → a ≡ b → SiteBad bytes b
bad_within bytes a b within fault same = let P : ℕ → Type 0 = λ k. SiteBad bytes k in subst P same (inl (within, fault))

pub bad_beyond : (bytes front : List ℕ) (a b : ℕ) → front ≡ take site_limit bytes → site_limit < length bytes → BeyondAt front a → a ≡ b → SiteBad bytes b
bad_beyond bytes front a b is past found same =
    let P : ℕ → Type 0 = λ k. SiteBad bytes k in
    let Q : List ℕ → Type 0 = λ bs. BeyondAt bs a in
    subst P same (inr (past, subst Q is found))

pub site_kept : (entries : List Entry) (bytes : List ℕ) → SiteText entries bytes → (is_site_from None entries ≡ true) × (length (site_text entries) ≤ site_limit)
site_kept entries bytes is = let P : List ℕ → Type 0 = λ bs. length bs ≤ site_limit in (is.site, subst P is.text is.within)

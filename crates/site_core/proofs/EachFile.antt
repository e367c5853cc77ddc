-- Bytes are a site text or have a first fault: each line that is read takes some of them.
use Rattle.std.proofs.Common.{◌≡◌, ℕ, zero, suc, ◌+◌, ◌<◌, ◌≤◌, ◌⊎◌, inl, inr, List, [], ◌∷◌, ◌++◌, length, take, drop, true, false, Bool, Option, Some, None, Result, Ok, Err, refl, sym, subst, arith, length-drop}
use Rattle.std.specs.Prelude.{position}
use Rattle.std.proofs.lemmas.Bool.{cases_Bool, cond-true, cond-false}
use Rattle.link_uri.specs.declared.heard.Reply.{Reply}
use Rattle.site_core.specs.declared.expected.Expected.{Expected}
use Rattle.site_core.specs.declared.expected.Expected.TheVariants.{First, Between}
use Rattle.site_core.specs.declared.expected.Step.{Step}
use Rattle.site_core.specs.declared.expected.Step.TheVariants.{Misfit, Next, Finished, Body}
use Rattle.site_core.specs.Fields.{is_lf}
use Rattle.site_core.specs.Lines.{step}
use Rattle.site_core.specs.Places.{Answer, Look, On, Reads, SiteBad, is_lf_at, look, look_behind, look_body, look_line, look_step, reads_end, reads_on}
use Rattle.site_core.specs.Text.{Entry, SiteText, site_limit}
use Rattle.site_core.proofs.Ends.{split_line}
use Rattle.site_core.proofs.Sound.{site_from_reads}

-- ---- each line takes a byte

-- where the lines go on, fewer bytes are left than so many
abbrev pub GoesOnBelow : ℕ → Look → Type 0
GoesOnBelow n (Answer answer) = Unit {0}
GoesOnBelow n (On done expected at rest) = length rest < n

below_behind : (n : ℕ) (done : List Entry) (at : ℕ) (rest : List ℕ) → GoesOnBelow n (look_behind done at rest)
below_behind n done at [] = tt
below_behind n done at (byte ∷ rest) = tt

below_body : (m : ℕ) (done : List Entry) (line at : ℕ) (rest link : List ℕ) (reply : Reply) (n : ℕ) → length rest < m → GoesOnBelow m (look_body done line at rest link reply n)
below_body m done line at rest link reply n less =
    let on : Look = On (done ++ (link, record reply { body = take n rest }) ∷ []) Between (at + suc n) (drop (suc n) rest) in
    elim (cases_Bool (is_lf_at rest n)) [
      | inl holds ↦ subst (GoesOnBelow m) (sym (cond-true (is_lf_at rest n) on (Answer (Err line)) holds)) (omega (arith, length-drop (suc n) rest))
      | inr fails ↦ subst (GoesOnBelow m) (sym (cond-false (is_lf_at rest n) on (Answer (Err line)) fails)) tt
    ]

below_step : (m : ℕ) (done : List Entry) (line at : ℕ) (rest : List ℕ) (s : Step) → length rest < m → GoesOnBelow m (look_step done line at rest s)
below_step m done line at rest Misfit less = tt
below_step m done line at rest (Next expected) less = less
below_step m done line at rest Finished less = below_behind m done at rest
below_step m done line at rest (Body link reply n) less = below_body m done line at rest link reply n less

below_line : (done : List Entry) (expected : Expected) (line : ℕ) (rest : List ℕ) (o : Option ℕ) → position is_lf rest ≡ o → GoesOnBelow (length rest) (look_line done expected line rest o)
below_line done expected line rest None found = tt
below_line done expected line rest (Some n) found =
    below_step (length rest) done line (line + suc n) (drop (suc n) rest) (step done expected (take n rest)) (omega (arith, length-drop (suc n) rest, (split_line rest n found).0))

-- ---- so there is an answer

abbrev pub HasAnswer : List Entry → Expected → ℕ → List ℕ → Type 0
HasAnswer done expected at rest = (answer : Result (List Entry) ℕ) × Reads done expected at rest answer

answer_by : (n : ℕ) (done : List Entry) (expected : Expected) (at : ℕ) (rest : List ℕ) (l : Look) → look done expected at rest ≡ l → GoesOnBelow n l → ((d : List Entry) (e : Expected) (a : ℕ) (r : List ℕ) → length r < n → HasAnswer d e a r) → HasAnswer done expected at rest
answer_by n done expected at rest (Answer answer) is below further = (answer, reads_end is)
answer_by n done expected at rest (On done' expected' at' rest') is below further =
    let read = further done' expected' at' rest' below in
    (read.0, reads_on is read.1)

wider : (n m : ℕ) (l : Look) → n ≤ m → GoesOnBelow n l → GoesOnBelow m l
wider n m (Answer answer) more below = tt
wider n m (On done expected at rest) more below = omega arith

answer_from : (n : ℕ) (done : List Entry) (expected : Expected) (at : ℕ) (rest : List ℕ) → length rest < n → HasAnswer done expected at rest
answer_from zero done expected at rest less = absurd (omega arith)
answer_from (suc n) done expected at rest less =
    let l = look done expected at rest in
    answer_by n done expected at rest l refl (wider (length rest) n l (omega arith) (below_line done expected at rest (position is_lf rest) refl)) (λ d e a r h. answer_from n d e a r h)

by_answer : (bytes : List ℕ) (answer : Result (List Entry) ℕ) → length bytes ≤ site_limit → Reads [] First 0 bytes answer → ((entries : List Entry) × SiteText entries bytes) ⊎ ((at : ℕ) × SiteBad bytes at)
by_answer bytes (Ok entries) within reads = inl (entries, site_from_reads bytes entries reads within)
by_answer bytes (Err at) within reads = inr (at, inl (within, reads))

pub site_or_fault : (bytes : List ℕ) → length bytes ≤ site_limit → ((entries : List Entry) × SiteText entries bytes) ⊎ ((at : ℕ) × SiteBad bytes at)
site_or_fault bytes within =
    let read = answer_from (suc (length bytes)) [] First 0 bytes (omega arith) in
    by_answer bytes read.0 within read.1

-- where the first bytes show no fault, the place of the first byte too many is one
pub fault_beyond : (bytes : List ℕ) → site_limit < length bytes → ((at : ℕ) → SiteBad bytes at → ⊥) → ⊥
fault_beyond bytes past none = none site_limit (inr (past, inr (refl, λ at shown. none at (inr (past, inl shown)))))

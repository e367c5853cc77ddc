-- Bytes are one site text or have one first fault, and never both.
use Rattle.std.proofs.Common.{◌≡◌, ℕ, ◌^◌, ◌<◌, List, [], length, take, Result, Ok, refl, sym, ◌∙◌, subst, arith, append-nil, inl, inr}
use Rattle.site_core.specs.declared.expected.Expected.{Expected}
use Rattle.site_core.specs.declared.expected.Expected.TheVariants.{First}
use Rattle.site_core.specs.Places.{BeyondAt, FaultAt, Reads, Shows, SiteBad, reads_end, reads_on}
use Rattle.site_core.specs.Text.{Entry, SiteText, site_limit}
use Rattle.site_core.proofs.Printed.{reads_site}

one_answer_at : {done done' : List Entry} {expected spot' : Expected} {at at' : ℕ} {rest rest' : List ℕ} {a b : Result (List Entry) ℕ} → Reads done expected at rest a → done' ≡ done → spot' ≡ expected → at' ≡ at → rest' ≡ rest → Reads done' spot' at' rest' b → a ≡ b
one_answer_at (reads_end e) same_done same_spot same_at same_rest (reads_end f) = cc
one_answer_at (reads_end e) same_done same_spot same_at same_rest (reads_on f reads) = absurd cc
one_answer_at (reads_on e reads) same_done same_spot same_at same_rest (reads_end f) = absurd cc
one_answer_at (reads_on e reads) same_done same_spot same_at same_rest (reads_on f others) = one_answer_at reads (cc) (cc) (cc) (cc) others

pub one_answer : {done : List Entry} {expected : Expected} {at : ℕ} {rest : List ℕ} {a b : Result (List Entry) ℕ} → Reads done expected at rest a → Reads done expected at rest b → a ≡ b
one_answer reads others = one_answer_at reads refl refl refl refl others

-- a site text is read as its site
pub reads_text : (entries : List Entry) (bytes : List ℕ) → SiteText entries bytes → Reads [] First 0 bytes (Ok entries)
reads_text entries bytes is =
    let P : List ℕ → Type 0 = λ bs. Reads [] First 0 bs (Ok entries) in
    let Q : List ℕ → Type 0 = λ bs. length bs < 2 ^ 64 in
    subst P (sym is.text) (reads_site entries is.site (subst Q is.text (omega (arith, is.within))))

pub one_site : (a b : List Entry) (bytes : List ℕ) → SiteText a bytes → SiteText b bytes → a ≡ b
one_site a b bytes is_a is_b =
    let e = one_answer (reads_text a bytes is_a) (reads_text b bytes is_b) in cc

pub shown_alone : (bytes : List ℕ) (at : ℕ) → Shows bytes at → FaultAt bytes at
shown_alone bytes at shown = let P : List ℕ → Type 0 = λ bs. FaultAt bs at in subst P (append-nil bytes) (shown [])

pub never_both : (entries : List Entry) (bytes : List ℕ) (at : ℕ) → SiteText entries bytes → SiteBad bytes at → ⊥
never_both entries bytes at is (inl fault) = let e = one_answer (reads_text entries bytes is) fault.1 in cc
never_both entries bytes at is (inr beyond) = let within = is.within in let past = beyond.0 in omega arith

one_place_beyond : (front : List ℕ) (a b : ℕ) → BeyondAt front a → BeyondAt front b → a ≡ b
one_place_beyond front a b (inl shown) (inl other) = let e = one_answer (shown_alone front a shown) (shown_alone front b other) in cc
one_place_beyond front a b (inl shown) (inr none) = absurd (none.1 a shown)
one_place_beyond front a b (inr none) (inl shown) = absurd (none.1 b shown)
one_place_beyond front a b (inr none) (inr other) = none.0 ∙ sym other.0

pub one_place : (bytes : List ℕ) (a b : ℕ) → SiteBad bytes a → SiteBad bytes b → a ≡ b
one_place bytes a b (inl fault) (inl other) = let e = one_answer fault.1 other.1 in cc
one_place bytes a b (inl fault) (inr beyond) = let x = fault.0 in let y = beyond.0 in absurd (omega arith)
one_place bytes a b (inr beyond) (inl fault) = let x = fault.0 in let y = beyond.0 in absurd (omega arith)
one_place bytes a b (inr beyond) (inr other) = one_place_beyond (take site_limit bytes) a b beyond.1 other.1

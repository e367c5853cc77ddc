-- The place of the fault where the first bytes of a file end within a line.
use Rattle.std.proofs.Common.{◌≡◌, ℕ, ◌+◌, ◌-◌, ◌<◌, ◌≤◌, suc, zero, List, [], ◌∷◌, ◌++◌, length, take, drop, get_or, Bool, true, false, Option, Some, None, Err, refl, sym, ap, ◌∙◌, subst, arith, inl, inr}
use Rattle.std.specs.Prelude.{not, position}
use Rattle.std.specs.List.{list_all, position_or_len}
use Rattle.std.proofs.lemmas.Bool.{and_parts, cases_lt, cond_below}
use Rattle.std.proofs.lemmas.List.{get_or_append_left, take_all}
use Rattle.std.proofs.lemmas.List.Quantifiers.{position-Some}
use Rattle.std.proofs.Math.Seq.{take-append-add}
use Rattle.site_core.specs.declared.expected.Expected.{Expected}
use Rattle.site_core.specs.Endings.{LeadsTo}
use Rattle.site_core.specs.Fields.{is_lf}
use Rattle.site_core.specs.Growth.{CanGrow, CannotGrow}
use Rattle.site_core.specs.Lines.{step}
use Rattle.site_core.specs.Places.{Answer, BeyondAt, Shows, look, look_line, look_step, reads_end}
use Rattle.site_core.specs.Text.{Entry, site_limit}
use Rattle.site_core.proofs.Ends.{is_plain, plain_front}
use Rattle.site_core.proofs.Following.{leads_bad, unended_bad}
use Rattle.site_core.proofs.Growing.{Tells}
use Rattle.site_core.proofs.OneAnswer.{one_answer, shown_alone}

all_at : (p : ℕ → Bool) (xs : List ℕ) (k : ℕ) → list_all p xs ≡ true → k < length xs → p (get_or xs k 0) ≡ true
all_at p [] k all within = absurd (omega arith)
all_at p (x ∷ xs) zero all within = (and_parts (p x) (list_all p xs) all).0
all_at p (x ∷ xs) (suc k) all within = all_at p xs k (and_parts (p x) (list_all p xs) all).1 (omega arith)

-- bytes without a line's end
plain_none : (part : List ℕ) → position is_lf part ≡ None → is_plain part ≡ true
plain_none part none =
    elim (cases_lt (position_or_len is_lf part) (length part)) [
      | inl below ↦ absurd (let found = cond_below (position_or_len is_lf part) (length part) (Some (position_or_len is_lf part)) None below in cc)
      | inr above ↦ (let P : List ℕ → Type 0 = λ bs. is_plain bs ≡ true in subst P (take_all (position_or_len is_lf part) part above) (plain_front part))
    ]

-- the first line's end is behind them
behind_part : (part more : List ℕ) (n : ℕ) → position is_lf part ≡ None → position is_lf (part ++ more) ≡ Some n → length part ≤ n
behind_part part more n none found =
    elim (cases_lt n (length part)) [
      | inl within ↦
          let at = position-Some is_lf (part ++ more) n 0 found in
          let here : is_lf (get_or part n 0) ≡ true = ap is_lf (sym (get_or_append_left part more 0 n within)) ∙ at.1 in
          let plain = all_at (λ b. not (is_lf b)) part n (plain_none part none) within in
          absurd (let e : not (is_lf (get_or part n 0)) ≡ false = ap not here in cc)
      | inr above ↦ above
    ]

misfit_look : (done : List Entry) (expected : Expected) (at : ℕ) (part more : List ℕ) → position is_lf part ≡ None → CannotGrow done expected part → (found : Option ℕ) → position is_lf (part ++ more) ≡ found → look done expected at (part ++ more) ≡ Answer (Err at)
misfit_look done expected at part more none stays None found = unended_bad done expected at (part ++ more) found
misfit_look done expected at part more none stays (Some n) found =
    let above = behind_part part more n none found in
    let k = n - length part in
    let parts : n ≡ length part + k = omega (arith, above) in
    let line : take n (part ++ more) ≡ part ++ take k more = ap (λ m. take m (part ++ more)) parts ∙ take-append-add part more k in
    ap (look_line done expected at (part ++ more)) found
    ∙ ap (look_step done at (at + suc n) (drop (suc n) (part ++ more))) (ap (step done expected) line ∙ stays (take k more))

shown_open : (front : List ℕ) (done : List Entry) (expected : Expected) (at : ℕ) → LeadsTo front done expected at → position is_lf (drop at front) ≡ None → CannotGrow done expected (drop at front) → Shows front at
shown_open front done expected at leads none stays more =
    leads more (Err at) (reads_end (misfit_look done expected at (drop at front) more none stays (position is_lf (drop at front ++ more)) refl))

none_open : (front : List ℕ) (done : List Entry) (expected : Expected) (at : ℕ) → length front ≡ site_limit → LeadsTo front done expected at → position is_lf (drop at front) ≡ None → CanGrow done expected (drop at front) → BeyondAt front (length front)
none_open front done expected at full leads none grows =
    let here = leads_bad front done expected at leads (unended_bad done expected at (drop at front) none) in
    let other = grows.1 at in
    inr (
      full,
      λ place shown.
          let first = one_answer here (shown_alone front place shown) in
          let second = one_answer (leads grows.0 other.0 other.1) (shown grows.0) in
          other.2 (cc),
    )

pub open_grows : (front : List ℕ) (done : List Entry) (expected : Expected) (at : ℕ) → length front ≡ site_limit → LeadsTo front done expected at → position is_lf (drop at front) ≡ None → Tells done expected (drop at front) true → BeyondAt front (length front)
open_grows front done expected at full leads none grows = none_open front done expected at full leads none grows

pub open_stays : (front : List ℕ) (done : List Entry) (expected : Expected) (at place : ℕ) → place ≡ at → LeadsTo front done expected at → position is_lf (drop at front) ≡ None → Tells done expected (drop at front) false → BeyondAt front place
open_stays front done expected at place is leads none stays =
    let P : ℕ → Type 0 = λ k. BeyondAt front k in
    subst P (sym is) (inl (shown_open front done expected at leads none stays))

-- what the test told, of the bytes as the code has them
pub open_at : (done seen : List Entry) (expected : Expected) (part seen_part : List ℕ) (grows is : Bool) → seen ≡ done → seen_part ≡ part → grows ≡ is → Tells seen expected seen_part grows → Tells done expected part is
open_at done seen expected part seen_part grows is same_done same_part same told =
    let P : List Entry → Type 0 = λ ds. Tells ds expected seen_part grows in
    let Q : List ℕ → Type 0 = λ bs. Tells done expected bs grows in
    let R : Bool → Type 0 = λ b. Tells done expected part b in
    subst R same (subst Q same_part (subst P same_done told))

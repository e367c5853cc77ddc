-- The parts of a text may be cut out, since the marks between them are ASCII.
use Rattle.std.proofs.Common.{◌≡◌, ℕ, ◌+◌, ◌<◌, ◌≤◌, Bool, true, false, cond, List, [], ◌∷◌, Option, Some, None, length, drop, get_or, eqb, refl, sym, ap, subst, ◌∙◌, inl, inr, arith}
use Rattle.std.proofs.Common.{lit<}
use Rattle.std.specs.Option.{ForSome}
use Rattle.std.specs.Str.{IsUtf8, IsCharBoundary}
use Rattle.std.specs.Prelude.{nat_lt, codes}
use Rattle.std.specs.List.{list_all, position_or_len}
use Rattle.std.proofs.lemmas.Bool.{and_parts, or_cases, ltb-true, eqb-true, cases_lt}
use Rattle.std.proofs.lemmas.List.{get_or-drop}
use Rattle.std.proofs.lemmas.List.Sums.{passes_at_first}
use Rattle.std.proofs.lemmas.Str.{IsCharBoundary-start, IsCharBoundary-end, IsCharBoundary-before_ascii, IsCharBoundary-after_ascii}
use Rattle.std.proofs.lemmas.List.{length-drop}
use Rattle.iri_core.specs.declared.parts.Span.{Span}
use Rattle.iri_core.specs.Reference.{colon, slash, question_mark, number_sign, is_among, is_at, first_of, span, scheme_of, behind_scheme, authority_at, end_of, path_at, query_at, fragment_at, parts_of, IsCut, AllCut}
use Rattle.iri_core.proofs.Marks.{first_of_within}

among_ascii : (marks : List ℕ) (b : ℕ) → list_all (λ m. nat_lt m 128) marks ≡ true → is_among marks b ≡ true → b < 128
among_ascii [] b a h = absurd (cc)
among_ascii (m ∷ marks) b a h =
    let w = and_parts (nat_lt m 128) (list_all (λ n. nat_lt n 128) marks) a in
    elim (or_cases (eqb m b) (is_among marks b) h) [
      | inl e ↦ let same = eqb-true m b e in let low = ltb-true m 128 w.0 in omega arith
      | inr t ↦ among_ascii marks b w.1 t
    ]

pub first_of_found : (marks text : List ℕ) (at : ℕ) → at ≤ length text → first_of marks text at < length text → is_among marks (get_or text (first_of marks text at) 0) ≡ true
unfolding first_of
first_of_found marks text at within h =
    let lt : position_or_len (is_among marks) (drop at text) < length (drop at text) = omega (arith, length-drop at text) in
    ap (is_among marks) (sym (get_or-drop at text (position_or_len (is_among marks) (drop at text)) 0)) ∙ passes_at_first (is_among marks) (drop at text) 0 lt

at_mark : (marks text : List ℕ) (at : ℕ) → list_all (λ m. nat_lt m 128) marks ≡ true → at ≤ length text → IsCharBoundary text (first_of marks text at)
at_mark marks text at ascii within =
    let w = first_of_within marks text at within in
    elim (cases_lt (first_of marks text at) (length text)) [
      | inl lt ↦ IsCharBoundary-before_ascii text (first_of marks text at) lt (among_ascii marks _ ascii (first_of_found marks text at within lt))
      | inr le ↦ let e : length text ≡ first_of marks text at = omega arith in subst (IsCharBoundary text) e (IsCharBoundary-end text)
    ]

pub record StandsAt (text : List ℕ) (at b : ℕ) : Type 0 where
  pub within : at < length text
  pub is : get_or text at 0 ≡ b

pub stands_at : (text : List ℕ) (at b : ℕ) → is_at text at b ≡ true → StandsAt text at b
stands_at text at b h =
    let w = and_parts (nat_lt at (length text)) (eqb (get_or text at 0) b) h in
    record { within = ltb-true at (length text) w.0; is = eqb-true (get_or text at 0) b w.1 }

behind_mark : (text : List ℕ) (at b : ℕ) → IsUtf8 text → b < 128 → StandsAt text at b → IsCharBoundary text (at + 1)
behind_mark text at b u low h = IsCharBoundary-after_ascii text at u h.within (let e = h.is in omega arith)

pub from_some : {X : Type 0} (b : Bool) (x s : X) → cond b (Some x) None ≡ Some s → (b ≡ true) × (x ≡ s)
from_some true x s e = (refl, cc)
from_some false x s e = absurd (cc)

scheme_cut : (text : List ℕ) → IsUtf8 text → ForSome (scheme_of text) (IsCut text)
unfolding scheme_of
scheme_cut text u s e =
    let w = from_some _ (span 0 (first_of (codes ":/?#") text 0)) s e in
    subst (IsCut text) w.1 (record { ordered = omega arith; begins = IsCharBoundary-start text u; ends = at_mark (codes ":/?#") text 0 refl (omega arith) })

start_by : (text : List ℕ) (o : Option Span) → IsUtf8 text → scheme_of text ≡ o → IsCharBoundary text (behind_scheme o)
unfolding scheme_of
start_by text None u e = IsCharBoundary-start text u
start_by text (Some s) u e =
    let n = first_of (codes ":/?#") text 0 in
    let w = from_some _ (span 0 n) s e in
    subst (λ (x : Span). IsCharBoundary text (x.to + 1)) w.1 (behind_mark text n colon u (lit< tt) (stands_at text n colon (and_parts (nat_lt 0 n) (is_at text n colon) w.0).1))

authority_cut : (text : List ℕ) (at : ℕ) → IsUtf8 text → ForSome (authority_at text at) (IsCut text)
unfolding authority_at
authority_cut text at u s e =
    let n = first_of (codes "/?#") text (at + 2) in
    let w = from_some _ (span (at + 2) n) s e in
    let second = stands_at text (at + 1) slash (and_parts (is_at text at slash) (is_at text (at + 1) slash) w.0).1 in
    let same : at + 1 + 1 ≡ at + 2 = omega arith in
    let within : at + 2 ≤ length text = let h = second.within in omega arith in
    subst (IsCut text) w.1
    (record {
      ordered = (first_of_within (codes "/?#") text (at + 2) within).0;
      begins = subst (IsCharBoundary text) same (behind_mark text (at + 1) slash u (lit< tt) second);
      ends = at_mark (codes "/?#") text (at + 2) refl within;
    })

end_by : (text : List ℕ) (o : Option Span) (at : ℕ) → ForSome o (IsCut text) → IsCharBoundary text at → IsCharBoundary text (end_of o at)
end_by text None at cut here = here
end_by text (Some s) at cut here = (cut s refl).ends

path_cut : (text : List ℕ) (at : ℕ) → IsCharBoundary text at → IsCut text (path_at text at)
unfolding path_at
path_cut text at here = record { ordered = (first_of_within (codes "?#") text at here.0).0; begins = here; ends = at_mark (codes "?#") text at refl here.0 }

query_cut : (text : List ℕ) (at : ℕ) → IsUtf8 text → ForSome (query_at text at) (IsCut text)
unfolding query_at
query_cut text at u s e =
    let w = from_some _ (span (at + 1) (first_of (codes "#") text (at + 1))) s e in
    let mark = stands_at text at question_mark w.0 in
    let within : at + 1 ≤ length text = let h = mark.within in omega arith in
    subst (IsCut text) w.1
    (record {
      ordered = (first_of_within (codes "#") text (at + 1) within).0;
      begins = behind_mark text at question_mark u (lit< tt) mark;
      ends = at_mark (codes "#") text (at + 1) refl within;
    })

fragment_cut : (text : List ℕ) (at : ℕ) → IsUtf8 text → ForSome (fragment_at text at) (IsCut text)
unfolding fragment_at
fragment_cut text at u s e =
    let w = from_some _ (span (at + 1) (length text)) s e in
    let mark = stands_at text at number_sign w.0 in
    subst (IsCut text) w.1
    (record {
      ordered = let h = mark.within in omega arith;
      begins = behind_mark text at number_sign u (lit< tt) mark;
      ends = IsCharBoundary-end text;
    })

pub all_cut : (text : List ℕ) → IsUtf8 text → AllCut text (parts_of text)
all_cut text u =
    let scheme = scheme_cut text u in
    let start = behind_scheme (scheme_of text) in
    let begins = start_by text (scheme_of text) u refl in
    let authority = authority_cut text start u in
    let path = path_cut text (end_of (authority_at text start) start) (end_by text (authority_at text start) start authority begins) in
    let query = query_cut text (parts_of text).path.to u in
    let fragment = fragment_cut text (end_of (parts_of text).query (parts_of text).path.to) u in
    record { scheme = scheme; authority = authority; path = path; query = query; fragment = fragment }

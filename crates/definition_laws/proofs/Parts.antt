-- The parts of a reference with their marks follow each other from the text's start to its end, and none holds a mark that ends it.
use Rattle.std.proofs.Common.{◌≡◌, ℕ, suc, ◌+◌, ◌-◌, ◌<◌, ◌≤◌, Bool, true, false, cond, List, [], ◌∷◌, ◌++◌, Some, None, length, take, drop, get_or, eqb, refl, sym, ap, subst, ◌∙◌, inl, inr, arith, append_assoc, append-nil}
use Rattle.std.specs.Prelude.{not, nat_lt, codes, ◌&&◌}
use Rattle.std.specs.Option.{ForSome, option_map}
use Rattle.std.specs.List.{list_all, prefix_len, position_or_len, slice_range}
use Rattle.std.proofs.lemmas.Bool.{and_from, and_parts, cases_lt, eq-eqb, eqb-true, lt-ltb, or_cases}
use Rattle.std.proofs.lemmas.List.{drop_all, drop_more}
use Rattle.std.proofs.lemmas.List.Folds.{drop_split}
use Rattle.iri_core.specs.Reference.{colon, slash, question_mark, number_sign, is_among, is_at, first_of, span, scheme_of, behind_scheme, authority_at, end_of, path_at, query_at, fragment_at, parts_of}
use Rattle.iri_core.specs.Resolution.{piece_of, components, behind, scheme_text, recomposed}
use Rattle.iri_core.proofs.Marks.{first_of_within}
use Rattle.iri_core.proofs.Cuts.{first_of_found, stands_at}
use Rattle.definition_laws.specs.References.{HasNone}

-- ---- up to the first of the marks there is none of them

all_before_by : (p : ℕ → Bool) (x : ℕ) (xs : List ℕ) (b : Bool) → p x ≡ b → list_all p (take (prefix_len p xs) xs) ≡ true → list_all p (take (cond b (1 + prefix_len p xs) 0) (x ∷ xs)) ≡ true
all_before_by p x xs true e more =
    let n = prefix_len p xs in
    let next : 1 + n ≡ suc n = omega arith in
    ap (λ k. list_all p (take k (x ∷ xs))) next ∙ and_from (p x) (list_all p (take n xs)) e more
all_before_by p x xs false e more = refl

all_before : (p : ℕ → Bool) (xs : List ℕ) → list_all p (take (prefix_len p xs) xs) ≡ true
all_before p [] = refl
all_before p (x ∷ xs) = all_before_by p x xs (p x) refl (all_before p xs)

no_mark_before : (marks text : List ℕ) (from : ℕ) → HasNone marks (slice_range text from (first_of marks text from))
unfolding first_of
no_mark_before marks text from =
    let n = position_or_len (is_among marks) (drop from text) in
    let size : from + n - from ≡ n = omega arith in
    ap (λ k. list_all (λ b. not (is_among marks b)) (take k (drop from text))) size ∙ all_before (λ b. not (is_among marks b)) (drop from text)

no_mark_in_part : (marks text : List ℕ) (b : Bool) (from : ℕ) → ForSome (option_map (piece_of text) (cond b (Some (span from (first_of marks text from))) None)) (HasNone marks)
no_mark_in_part marks text true from s e =
    let same : slice_range text from (first_of marks text from) ≡ s = cc in
    subst (HasNone marks) same (no_mark_before marks text from)
no_mark_in_part marks text false from s e = absurd (cc)

pub no_mark_in_scheme : (text : List ℕ) → ForSome (components text).scheme (HasNone (codes ":/?#"))
unfolding components scheme_of
no_mark_in_scheme text =
    let n = first_of (codes ":/?#") text 0 in
    no_mark_in_part (codes ":/?#") text (nat_lt 0 n && is_at text n colon) 0

pub no_mark_in_authority : (text : List ℕ) → ForSome (components text).authority (HasNone (codes "/?#"))
unfolding components authority_at
no_mark_in_authority text =
    let at = behind_scheme (scheme_of text) in
    no_mark_in_part (codes "/?#") text (is_at text at slash && is_at text (at + 1) slash) (at + 2)

pub no_mark_in_path : (text : List ℕ) → HasNone (codes "?#") (components text).path
unfolding components path_at
no_mark_in_path text = no_mark_before (codes "?#") text (parts_of text).path.from

pub no_mark_in_query : (text : List ℕ) → ForSome (components text).query (HasNone (codes "#"))
unfolding components query_at
no_mark_in_query text =
    let at = (parts_of text).path.to in
    no_mark_in_part (codes "#") text (is_at text at question_mark) (at + 1)

-- ---- what stands from one place of a text to another

record Stands (text part : List ℕ) (from to : ℕ) : Type 0 where
  within : to ≤ length text
  is : part ++ drop to text ≡ drop from text

nothing_stands : (text : List ℕ) (at : ℕ) → at ≤ length text → Stands text [] at at
nothing_stands text at within = record { within = within; is = refl }

one_after_the_other : (text a b : List ℕ) (from mid to : ℕ) → Stands text a from mid → Stands text b mid to → Stands text (a ++ b) from to
one_after_the_other text a b from mid to first second =
    record { within = second.within; is = append_assoc a b (drop to text) ∙ ap (λ (rest : List ℕ). a ++ rest) second.is ∙ first.is }

piece_stands : (text : List ℕ) (from to : ℕ) → from ≤ to → to ≤ length text → Stands text (slice_range text from to) from to
piece_stands text from to ordered within = record { within = within; is = sym (drop_split text from to ordered) }

mark_stands : (text : List ℕ) (at b : ℕ) → is_at text at b ≡ true → Stands text (b ∷ []) at (at + 1)
mark_stands text at b h =
    let w = stands_at text at b h in
    record {
      within = let lt = w.within in omega arith;
      is = sym (drop_more text at 0 w.within ∙ ap (λ m. m ∷ drop (at + 1) text) w.is);
    }

-- ---- so does each part behind its mark

record IsMarked (text mark : List ℕ) (at from to : ℕ) : Type 0 where
  begins : Stands text mark at from
  ordered : from ≤ to
  within : to ≤ length text

part_stands : (text mark : List ℕ) (b : Bool) (at from to : ℕ) → at ≤ length text → (b ≡ true → IsMarked text mark at from to)
    → Stands text (behind mark (option_map (piece_of text) (cond b (Some (span from to)) None))) at (end_of (cond b (Some (span from to)) None) at)
part_stands text mark true at from to within marked =
    let w = marked refl in
    one_after_the_other text mark (slice_range text from to) at from to w.begins (piece_stands text from to w.ordered w.within)
part_stands text mark false at from to within marked = nothing_stands text at within

up_to_first : (text mark marks : List ℕ) (at from : ℕ) → Stands text mark at from → IsMarked text mark at from (first_of marks text from)
up_to_first text mark marks at from stands =
    let w = first_of_within marks text from stands.within in
    record { begins = stands; ordered = w.0; within = w.1 }

scheme_stands_by : (text : List ℕ) (b : Bool) (n : ℕ) → n ≤ length text → (b ≡ true → is_at text n colon ≡ true)
    → Stands text (scheme_text (option_map (piece_of text) (cond b (Some (span 0 n)) None))) 0 (behind_scheme (cond b (Some (span 0 n)) None))
scheme_stands_by text true n within h =
    one_after_the_other text (slice_range text 0 n) (codes ":") 0 n (n + 1) (piece_stands text 0 n (omega arith) within) (mark_stands text n colon (h refl))
scheme_stands_by text false n within h = nothing_stands text 0 (omega arith)

scheme_stands : (text : List ℕ) → Stands text (scheme_text (option_map (piece_of text) (scheme_of text))) 0 (behind_scheme (scheme_of text))
unfolding scheme_of
scheme_stands text =
    let n = first_of (codes ":/?#") text 0 in
    scheme_stands_by text (nat_lt 0 n && is_at text n colon) n (first_of_within (codes ":/?#") text 0 (omega arith)).1 (λ h. (and_parts (nat_lt 0 n) (is_at text n colon) h).1)

authority_stands : (text : List ℕ) (at : ℕ) → at ≤ length text → Stands text (behind (codes "//") (option_map (piece_of text) (authority_at text at))) at (end_of (authority_at text at) at)
unfolding authority_at
authority_stands text at within =
    let same : at + 1 + 1 ≡ at + 2 = omega arith in
    part_stands text (codes "//") (is_at text at slash && is_at text (at + 1) slash) at (at + 2) (first_of (codes "/?#") text (at + 2)) within
    (λ h.
    let w = and_parts (is_at text at slash) (is_at text (at + 1) slash) h in
    let two = one_after_the_other text (slash ∷ []) (slash ∷ []) at (at + 1) (at + 1 + 1) (mark_stands text at slash w.0) (mark_stands text (at + 1) slash w.1) in
    up_to_first text (codes "//") (codes "/?#") at (at + 2) (subst (Stands text (codes "//") at) same two))

path_stands : (text : List ℕ) (at : ℕ) → at ≤ length text → Stands text (piece_of text (path_at text at)) at (path_at text at).to
unfolding path_at
path_stands text at within =
    let w = first_of_within (codes "?#") text at within in
    piece_stands text at (first_of (codes "?#") text at) w.0 w.1

query_stands : (text : List ℕ) (at : ℕ) → at ≤ length text → Stands text (behind (codes "?") (option_map (piece_of text) (query_at text at))) at (end_of (query_at text at) at)
unfolding query_at
query_stands text at within =
    part_stands text (codes "?") (is_at text at question_mark) at (at + 1) (first_of (codes "#") text (at + 1)) within
    (λ h. up_to_first text (codes "?") (codes "#") at (at + 1) (mark_stands text at question_mark h))

fragment_stands : (text : List ℕ) (at : ℕ) → at ≤ length text → Stands text (behind (codes "#") (option_map (piece_of text) (fragment_at text at))) at (end_of (fragment_at text at) at)
unfolding fragment_at
fragment_stands text at within =
    part_stands text (codes "#") (is_at text at number_sign) at (at + 1) (length text) within
    (λ h. let mark = mark_stands text at number_sign h in record { begins = mark; ordered = mark.within; within = omega arith })

-- ---- behind the fragment nothing is left

-- one of the marks stands here, or the text ends
abbrev pub StopsAt : List ℕ → List ℕ → ℕ → Type 0
StopsAt marks text at = at < length text → is_among marks (get_or text at 0) ≡ true

is_at_from : (text : List ℕ) (at b : ℕ) → at < length text → b ≡ get_or text at 0 → is_at text at b ≡ true
is_at_from text at b lt e = and_from (nat_lt at (length text)) (eqb (get_or text at 0) b) (lt-ltb at (length text) lt) (eq-eqb (get_or text at 0) b (sym e))

query_stops_by : (text : List ℕ) (b : Bool) (at : ℕ) → is_at text at question_mark ≡ b → StopsAt (codes "?#") text at
    → StopsAt (codes "#") text (end_of (cond b (Some (span (at + 1) (first_of (codes "#") text (at + 1)))) None) at)
query_stops_by text true at e stops = first_of_found (codes "#") text (at + 1) (mark_stands text at question_mark e).within
query_stops_by text false at e stops = λ lt.
    elim (or_cases (eqb 63 (get_or text at 0)) (is_among (codes "#") (get_or text at 0)) (stops lt)) [
      | inl h ↦ let here = is_at_from text at question_mark lt (eqb-true 63 (get_or text at 0) h) in absurd (cc)
      | inr h ↦ h
    ]

query_stops : (text : List ℕ) (at : ℕ) → StopsAt (codes "?#") text at → StopsAt (codes "#") text (end_of (query_at text at) at)
unfolding query_at
query_stops text at stops = query_stops_by text (is_at text at question_mark) at refl stops

path_stops : (text : List ℕ) (at : ℕ) → at ≤ length text → StopsAt (codes "?#") text (path_at text at).to
unfolding path_at
path_stops text at within = first_of_found (codes "?#") text at within

fragment_ends_by : (text : List ℕ) (b : Bool) (at : ℕ) → is_at text at number_sign ≡ b → StopsAt (codes "#") text at
    → length text ≤ end_of (cond b (Some (span (at + 1) (length text))) None) at
fragment_ends_by text true at e stops = omega arith
fragment_ends_by text false at e stops =
    elim (cases_lt at (length text)) [
      | inl lt ↦ elim (or_cases (eqb 35 (get_or text at 0)) false (stops lt)) [
        | inl h ↦ let here = is_at_from text at number_sign lt (eqb-true 35 (get_or text at 0) h) in absurd (cc)
        | inr h ↦ absurd (cc)
      ]
      | inr past ↦ past
    ]

fragment_ends : (text : List ℕ) (at : ℕ) → StopsAt (codes "#") text at → length text ≤ end_of (fragment_at text at) at
unfolding fragment_at
fragment_ends text at stops = fragment_ends_by text (is_at text at number_sign) at refl stops

whole_stands : (text whole : List ℕ) (to : ℕ) → Stands text whole 0 to → length text ≤ to → whole ≡ text
whole_stands text whole to stands end = sym (append-nil whole) ∙ ap (λ (rest : List ℕ). whole ++ rest) (sym (drop_all to text end)) ∙ stands.is

pub parts_are_the_text : (text : List ℕ) → recomposed (components text) ≡ text
unfolding components
parts_are_the_text text =
    let p = parts_of text in
    let c = components text in
    let start = behind_scheme p.scheme in
    let behind_authority = end_of p.authority start in
    let behind_path = p.path.to in
    let behind_query = end_of p.query behind_path in
    let scheme = scheme_stands text in
    let authority = authority_stands text start scheme.within in
    let path = path_stands text behind_authority authority.within in
    let query = query_stands text behind_path path.within in
    let fragment = fragment_stands text behind_query query.within in
    let a = behind (codes "//") c.authority in
    let q = behind (codes "?") c.query in
    let f = behind (codes "#") c.fragment in
    let two = one_after_the_other text (scheme_text c.scheme) a 0 start behind_authority scheme authority in
    let three = one_after_the_other text (scheme_text c.scheme ++ a) c.path 0 behind_authority behind_path two path in
    let four = one_after_the_other text (scheme_text c.scheme ++ a ++ c.path) q 0 behind_path behind_query three query in
    let five = one_after_the_other text (scheme_text c.scheme ++ a ++ c.path ++ q) f 0 behind_query (end_of p.fragment behind_query) four fragment in
    whole_stands text (recomposed c) (end_of p.fragment behind_query) five (fragment_ends text behind_query (query_stops text behind_path (path_stops text behind_authority authority.within)))

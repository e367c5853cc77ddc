-- The rules of RFC 3986, section 5.2.4, lead from a path to the path without its dot segments.
use Rattle.std.proofs.Common.{◌≡◌, ℕ, zero, suc, ◌+◌, ◌-◌, ◌<◌, Bool, true, false, cond, List, [], ◌∷◌, ◌++◌, length, reverse, take, get_or, eqb, refl, sym, ap, subst, ◌∙◌, inl, inr, arith, append-nil}
use Rattle.std.specs.Prelude.{not, codes, ◌==◌, ◌||◌}
use Rattle.std.specs.List.{suffix_len, join_with_byte, onto_first}
use Rattle.std.proofs.lemmas.Bool.{or_parts, or_from, or_cases, eq-eqb}
use Rattle.std.proofs.lemmas.List.{length-append, length-reverse, take_at, get_or_at, get_or-append_right}
use Rattle.std.proofs.lemmas.List.Sums.{suffix_len_is}
use Rattle.std.proofs.lemmas.List.Splits.{join_with_byte-slice_split}
use Rattle.std.proofs.lemmas.Grind.{reverse_onto}
use Rattle.std.proofs.lemmas.Slice.Eq.{bytes_eq-Decides}
use Rattle.iri_core.specs.Reference.{slash}
use Rattle.iri_core.specs.Dots.{Segment, segments, is_dot, is_dot_dot, is_dots, without_leading, climbed, kept_after, kept_at_end, kept_after_all, kept_of, without_dots}
use Rattle.iri_core.specs.DotRules.{has_slash, without_last, Removes}
use Rattle.iri_core.specs.DotRules.Ends.{at_the_end, at_a_slash}
use Rattle.iri_core.specs.DotRules.Removes.{finished, rule_a_up, rule_a, rule_b, rule_b_end, rule_c, rule_c_end, rule_d, rule_d_up, rule_e, rule_e_first}
use Rattle.iri_core.proofs.SegmentLemmas.{join_push}

-- ---- what a segment without a slash is at the end of a text

no_slash_at : (s : List ℕ) (k : ℕ) → has_slash s ≡ false → k < length s → eqb (get_or s k 0) 47 ≡ false
no_slash_at [] k h lt = absurd (omega arith)
no_slash_at (b ∷ s) zero h lt = (or_parts (eqb b 47) (has_slash s) h).0
no_slash_at (b ∷ s) (suc k) h lt = no_slash_at s k (or_parts (eqb b 47) (has_slash s) h).1 (omega arith)

last_goes : (xs s : List ℕ) → has_slash s ≡ false → without_last (xs ++ slash ∷ s) ≡ xs
last_goes xs s h =
    let whole = xs ++ slash ∷ s in
    let n = length xs + 1 in
    let long : length whole ≡ length xs + suc (length s) = length-append xs (slash ∷ s) in
    let at : n - 1 ≡ length xs = omega arith in
    let here : get_or whole (length xs) 0 ≡ slash = get_or_at xs slash s 0 (length xs) refl in
    let size = suffix_len_is (λ b. not (eqb b 47)) whole n 0 (omega arith)
    (λ k le lt. let d : k - length xs ≡ suc (k - n) = omega arith in ap (λ b. not (eqb b 47)) (get_or-append_right xs (slash ∷ s) (length xs) k 0 refl (omega arith) ∙ ap (λ i. get_or (slash ∷ s) i 0) d) ∙ ap not (no_slash_at s (k - n) h (omega arith)))
    (λ _. ap (λ i. not (eqb (get_or whole i 0) 47)) at ∙ ap not (eq-eqb (get_or whole (length xs) 0) 47 here)) in
    let cut : length whole - suffix_len (λ b. not (eqb b 47)) whole - 1 ≡ length xs = omega arith in
    ap (λ m. take m whole) cut ∙ take_at xs (slash ∷ s) (length xs) refl

only_goes : (s : List ℕ) → has_slash s ≡ false → without_last s ≡ []
only_goes s h =
    let size = suffix_len_is (λ b. not (eqb b 47)) s 0 0 (omega arith) (λ k le lt. ap not (no_slash_at s k h lt)) (λ p. absurd (omega arith)) in
    let cut : length s - suffix_len (λ b. not (eqb b 47)) s - 1 ≡ 0 = omega arith in
    ap (λ m. take m s) cut

-- ---- the text of the segments that are kept, which are given the latest first

abbrev pub text_of : List Segment → List ℕ
text_of kept = join_with_byte slash (reverse kept)

abbrev pub AllClean : List Segment → Type 0
AllClean [] = Unit {0}
AllClean (s ∷ more) = (has_slash s ≡ false) × AllClean more

pub record Kept (kept : List Segment) : Type 0 where
  pub some : 0 < length kept
  pub clean : AllClean kept

pub text_push : (kept : List Segment) (s : Segment) → 0 < length kept → text_of (s ∷ kept) ≡ text_of kept ++ slash ∷ s
text_push kept s some = ap (join_with_byte slash) (reverse_onto kept s []) ∙ join_push (reverse kept) s (omega (arith, length-reverse kept))

pub climbs : (kept : List Segment) → Kept kept → without_last (text_of kept) ≡ text_of (climbed kept)
climbs [] k = let h = k.some in absurd (omega arith)
climbs (s ∷ []) k = only_goes s k.clean.0
climbs (s ∷ t ∷ kept) k = ap without_last (text_push (t ∷ kept) s (omega arith)) ∙ last_goes (text_of (t ∷ kept)) s k.clean.0

pub climbed_Kept : (kept : List Segment) → Kept kept → Kept (climbed kept)
climbed_Kept [] k = record { some = omega arith; clean = (refl, tt) }
climbed_Kept (s ∷ []) k = record { some = omega arith; clean = (refl, tt) }
climbed_Kept (s ∷ t ∷ kept) k = record { some = omega arith; clean = k.clean.1 }

pub pushed_Kept : (kept : List Segment) (s : Segment) → has_slash s ≡ false → Kept kept → Kept (s ∷ kept)
pushed_Kept kept s h k = record { some = omega arith; clean = (h, k.clean) }

-- ---- one segment behind a slash

on_dot : (s : Segment) → is_dot s ≡ true → s ≡ codes "."
on_dot s h = (bytes_eq-Decides s (codes ".")).0 h

on_dot_dot : (s : Segment) → is_dot_dot s ≡ true → s ≡ codes ".."
on_dot_dot s h = (bytes_eq-Decides s (codes "..")).0 h

slash_moves : (kept : List Segment) → Kept kept → Removes (codes "/") (text_of kept) (text_of ([] ∷ kept))
slash_moves kept k =
    subst (λ (r : List ℕ). Removes (codes "/") (text_of kept) r) (sym (text_push kept [] k.some)) (rule_e [] [] (text_of kept) (text_of kept ++ slash ∷ []) refl refl at_the_end (finished (text_of kept ++ slash ∷ [])))

one_step : (x y : Bool) (kept : List Segment) (s : Segment) (rest r : List ℕ) → is_dot s ≡ x → is_dot_dot s ≡ y → Kept kept → has_slash s ≡ false
    → ((next : List Segment) → Kept next → kept_after kept s ≡ next → Removes (slash ∷ rest) (text_of next) r) → Removes (slash ∷ s ++ slash ∷ rest) (text_of kept) r
one_step true y kept s rest r e f k h go =
    subst (λ (t : List ℕ). Removes (slash ∷ t ++ slash ∷ rest) (text_of kept) r) (sym (on_dot s e))
    (rule_b rest (text_of kept) r (go kept k (ap (λ b. cond b kept (cond (is_dot_dot s) (climbed kept) (s ∷ kept))) e)))
one_step false true kept s rest r e f k h go =
    subst (λ (t : List ℕ). Removes (slash ∷ t ++ slash ∷ rest) (text_of kept) r) (sym (on_dot_dot s f))
    (rule_c rest (text_of kept) r
    (subst (λ (o : List ℕ). Removes (slash ∷ rest) o r) (sym (climbs kept k))
    (go (climbed kept) (climbed_Kept kept k) (ap (λ b. cond b kept (cond (is_dot_dot s) (climbed kept) (s ∷ kept))) e ∙ ap (λ b. cond b (climbed kept) (s ∷ kept)) f))))
one_step false false kept s rest r e f k h go =
    rule_e s (slash ∷ rest) (text_of kept) r h (or_from (is_dot s) (is_dot_dot s) e f) (at_a_slash rest)
    (subst (λ (o : List ℕ). Removes (slash ∷ rest) o r) (text_push kept s k.some)
    (go (s ∷ kept) (pushed_Kept kept s h k) (ap (λ b. cond b kept (cond (is_dot_dot s) (climbed kept) (s ∷ kept))) e ∙ ap (λ b. cond b (climbed kept) (s ∷ kept)) f)))

last_step : (x y : Bool) (kept : List Segment) (s : Segment) → is_dot s ≡ x → is_dot_dot s ≡ y → Kept kept → has_slash s ≡ false → Removes (slash ∷ s) (text_of kept) (text_of (kept_at_end kept s))
last_step true y kept s e f k h =
    let end : kept_at_end kept s ≡ [] ∷ kept = ap (λ b. cond (b || is_dot_dot s) ([] ∷ cond b kept (cond (is_dot_dot s) (climbed kept) (s ∷ kept))) (s ∷ kept)) e in
    subst (λ (r : List ℕ). Removes (slash ∷ s) (text_of kept) r) (sym (ap text_of end))
    (subst (λ (t : List ℕ). Removes (slash ∷ t) (text_of kept) (text_of ([] ∷ kept))) (sym (on_dot s e)) (rule_b_end (text_of kept) (text_of ([] ∷ kept)) (slash_moves kept k)))
last_step false true kept s e f k h =
    let end : kept_at_end kept s ≡ [] ∷ climbed kept =
    ap (λ b. cond (b || is_dot_dot s) ([] ∷ cond b kept (cond (is_dot_dot s) (climbed kept) (s ∷ kept))) (s ∷ kept)) e
    ∙ ap (λ b. cond b ([] ∷ cond b (climbed kept) (s ∷ kept)) (s ∷ kept)) f in
    subst (λ (r : List ℕ). Removes (slash ∷ s) (text_of kept) r) (sym (ap text_of end))
    (subst (λ (t : List ℕ). Removes (slash ∷ t) (text_of kept) (text_of ([] ∷ climbed kept))) (sym (on_dot_dot s f))
    (rule_c_end (text_of kept) (text_of ([] ∷ climbed kept))
    (subst (λ (o : List ℕ). Removes (codes "/") o (text_of ([] ∷ climbed kept))) (sym (climbs kept k)) (slash_moves (climbed kept) (climbed_Kept kept k)))))
last_step false false kept s e f k h =
    let end : kept_at_end kept s ≡ s ∷ kept =
    ap (λ b. cond (b || is_dot_dot s) ([] ∷ cond b kept (cond (is_dot_dot s) (climbed kept) (s ∷ kept))) (s ∷ kept)) e
    ∙ ap (λ b. cond b ([] ∷ cond b (climbed kept) (s ∷ kept)) (s ∷ kept)) f in
    subst (λ (r : List ℕ). Removes (slash ∷ s) (text_of kept) r) (sym (ap text_of end ∙ text_push kept s k.some))
    (subst (λ (i : List ℕ). Removes (slash ∷ i) (text_of kept) (text_of kept ++ slash ∷ s)) (append-nil s)
    (rule_e s [] (text_of kept) (text_of kept ++ slash ∷ s) h (or_from (is_dot s) (is_dot_dot s) e f) at_the_end (finished (text_of kept ++ slash ∷ s))))

-- ---- all segments

behind_a_slash : (kept : List Segment) (s : Segment) (more : List Segment) → Kept kept → AllClean (s ∷ more)
    → Removes (slash ∷ join_with_byte slash (s ∷ more)) (text_of kept) (text_of (kept_after_all kept (s ∷ more)))
behind_a_slash kept s [] k c = last_step (is_dot s) (is_dot_dot s) kept s refl refl k c.0
behind_a_slash kept s (t ∷ more) k c =
    let r = text_of (kept_after_all (kept_after kept s) (t ∷ more)) in
    one_step (is_dot s) (is_dot_dot s) kept s (join_with_byte slash (t ∷ more)) r refl refl k c.0
    (λ next n e. subst (λ (l : List Segment). Removes (slash ∷ join_with_byte slash (t ∷ more)) (text_of next) (text_of (kept_after_all l (t ∷ more)))) (sym e) (behind_a_slash next t more n c.1))

-- a first segment that is no dot segment
first_moves : (s : Segment) → has_slash s ≡ false → is_dots s ≡ false → Removes s [] s
first_moves [] h e = finished []
first_moves (b ∷ s) h e = subst (λ (i : List ℕ). Removes i [] (b ∷ s)) (append-nil (b ∷ s)) (rule_e_first b s [] [] (b ∷ s) h e at_the_end (finished (b ∷ s)))

first_then : (s t : Segment) (more : List Segment) → AllClean (s ∷ t ∷ more) → is_dots s ≡ false → Removes (s ++ slash ∷ join_with_byte slash (t ∷ more)) [] (text_of (kept_after_all (s ∷ []) (t ∷ more)))
first_then [] t more c e = behind_a_slash ([] ∷ []) t more (record { some = omega arith; clean = (refl, tt) }) c.1
first_then (b ∷ s) t more c e =
    rule_e_first b s (slash ∷ join_with_byte slash (t ∷ more)) [] (text_of (kept_after_all ((b ∷ s) ∷ []) (t ∷ more))) c.0 e (at_a_slash (join_with_byte slash (t ∷ more)))
    (behind_a_slash ((b ∷ s) ∷ []) t more (record { some = omega arith; clean = (c.0, tt) }) c.1)

only_dots : (s : Segment) → is_dots s ≡ true → Removes s [] []
only_dots s e = elim (or_cases (is_dot s) (is_dot_dot s) e) [
  | inl d ↦ subst (λ (i : List ℕ). Removes i [] []) (sym (on_dot s d)) (rule_d [] [] (finished []))
  | inr d ↦ subst (λ (i : List ℕ). Removes i [] []) (sym (on_dot_dot s d)) (rule_d_up [] [] (finished []))
]

dots_then : (s : Segment) (rest r : List ℕ) → is_dots s ≡ true → Removes rest [] r → Removes (s ++ slash ∷ rest) [] r
dots_then s rest r e go = elim (or_cases (is_dot s) (is_dot_dot s) e) [
  | inl d ↦ subst (λ (i : List ℕ). Removes (i ++ slash ∷ rest) [] r) (sym (on_dot s d)) (rule_a rest [] r go)
  | inr d ↦ subst (λ (i : List ℕ). Removes (i ++ slash ∷ rest) [] r) (sym (on_dot_dot s d)) (rule_a_up rest [] r go)
]

start_by : (x : Bool) (s : Segment) → is_dots s ≡ x → has_slash s ≡ false → Removes s [] (text_of (kept_of (cond x ([] ∷ []) (s ∷ []))))
start_by true s e h = only_dots s e
start_by false s e h = first_moves s h e

start_then : (x : Bool) (s t : Segment) (more : List Segment) → is_dots s ≡ x → AllClean (s ∷ t ∷ more) → Removes (join_with_byte slash (t ∷ more)) [] (text_of (kept_of (without_leading (t ∷ more))))
    → Removes (s ++ slash ∷ join_with_byte slash (t ∷ more)) [] (text_of (kept_of (cond x (without_leading (t ∷ more)) (s ∷ t ∷ more))))
start_then true s t more e c go = dots_then s (join_with_byte slash (t ∷ more)) (text_of (kept_of (without_leading (t ∷ more)))) e go
start_then false s t more e c go = first_then s t more c e

from_the_start : (s : Segment) (more : List Segment) → AllClean (s ∷ more) → Removes (join_with_byte slash (s ∷ more)) [] (text_of (kept_of (without_leading (s ∷ more))))
from_the_start s [] c = start_by (is_dots s) s refl c.0
from_the_start s (t ∷ more) c = start_then (is_dots s) s t more refl c (from_the_start t more c.1)

from_all : (xs : List Segment) → AllClean xs → Removes (join_with_byte slash xs) [] (text_of (kept_of (without_leading xs)))
from_all [] c = finished []
from_all (s ∷ more) c = from_the_start s more c

clean_by : (b : Bool) (x : ℕ) (xs : List Segment) → (x == slash) ≡ b → AllClean xs → AllClean (cond b ([] ∷ xs) (onto_first x xs))
clean_by true x xs e c = (refl, c)
clean_by false x [] e c = (or_from (x == slash) false e refl, tt)
clean_by false x (s ∷ more) e c = (or_from (x == slash) (has_slash s) e c.0, c.1)

clean_segments : (path : List ℕ) → AllClean (segments path)
clean_segments [] = (refl, tt)
clean_segments (x ∷ path) = clean_by (x == slash) x (segments path) refl (clean_segments path)

pub by_the_rules : (path : List ℕ) → Removes path [] (without_dots path)
unfolding without_dots
by_the_rules path = subst (λ (i : List ℕ). Removes i [] (text_of (kept_of (without_leading (segments path))))) (join_with_byte-slice_split 47 path) (from_all (segments path) (clean_segments path))

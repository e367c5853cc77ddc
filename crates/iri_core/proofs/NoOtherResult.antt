-- The rules of RFC 3986, section 5.2.4, lead from a path to no other result.
use Rattle.std.proofs.Common.{◌≡◌, ℕ, Bool, true, false, cond, List, [], ◌∷◌, ◌++◌, eqb, refl, sym, ap, ◌∙◌, arith, append-nil}
use Rattle.std.specs.Prelude.{codes, ◌==◌}
use Rattle.std.specs.List.{onto_first}
use Rattle.std.proofs.lemmas.Bool.{or_parts}
use Rattle.iri_core.specs.Reference.{slash}
use Rattle.iri_core.specs.Dots.{Segment, segments, is_dot, is_dot_dot, is_dots, without_leading, climbed, kept_after, kept_at_end, kept_after_all, kept_of, without_dots}
use Rattle.iri_core.specs.DotRules.{has_slash, without_last, Ends, Removes}
use Rattle.iri_core.specs.DotRules.Ends.{at_the_end, at_a_slash}
use Rattle.iri_core.specs.DotRules.Removes.{finished, rule_a_up, rule_a, rule_b, rule_b_end, rule_c, rule_c_end, rule_d, rule_d_up, rule_e, rule_e_first}
use Rattle.iri_core.proofs.SegmentLemmas.{HasFirst, has_first, kept_step}
use Rattle.iri_core.proofs.ByTheRules.{text_of, Kept, climbs, climbed_Kept, pushed_Kept, text_push}

-- what is left of an input that is empty or begins with a slash
abbrev left_of : List Segment → List ℕ → List ℕ
left_of kept [] = text_of kept
left_of kept (b ∷ rest) = text_of (kept_after_all kept (segments rest))

abbrev IsRooted : List ℕ → Type 0
IsRooted [] = Unit {0}
IsRooted (b ∷ rest) = b ≡ 47

-- the segments of a segment and what follows it
whole_by : (b : ℕ) (s : List ℕ) (xs : List Segment) (x : Bool) → (b == slash) ≡ x → x ≡ false → cond x ([] ∷ xs) (onto_first b xs) ≡ onto_first b xs
whole_by b s xs true e f = absurd (cc)
whole_by b s xs false e f = refl

segments_alone : (s : List ℕ) → has_slash s ≡ false → segments s ≡ s ∷ []
segments_alone [] h = refl
segments_alone (b ∷ s) h =
    let w = or_parts (b == slash) (has_slash s) h in
    whole_by b s (segments s) (b == slash) refl w.0 ∙ ap (onto_first b) (segments_alone s w.1)

segments_then : (s rest : List ℕ) → has_slash s ≡ false → segments (s ++ slash ∷ rest) ≡ s ∷ segments rest
segments_then [] rest h = refl
segments_then (b ∷ s) rest h =
    let w = or_parts (b == slash) (has_slash s) h in
    whole_by b s (segments (s ++ slash ∷ rest)) (b == slash) refl w.0 ∙ ap (onto_first b) (segments_then s rest w.1)

rooted_ends : (rest : List ℕ) → Ends rest → IsRooted rest
rooted_ends r at_the_end = tt
rooted_ends r (at_a_slash rest) = refl

-- one segment that is kept
kept_other : (kept : List Segment) (s : Segment) → is_dots s ≡ false → kept_after kept s ≡ s ∷ kept
kept_other kept s h =
    let w = or_parts (is_dot s) (is_dot_dot s) h in
    ap (λ b. cond b kept (cond (is_dot_dot s) (climbed kept) (s ∷ kept))) w.0 ∙ ap (λ b. cond b (climbed kept) (s ∷ kept)) w.1

last_other : (kept : List Segment) (s : Segment) → is_dots s ≡ false → kept_at_end kept s ≡ s ∷ kept
last_other kept s h = ap (λ b. cond b ([] ∷ kept_after kept s) (s ∷ kept)) h

left_moved : (kept : List Segment) (s rest : List ℕ) → has_slash s ≡ false → is_dots s ≡ false → Ends rest → left_of (s ∷ kept) rest ≡ text_of (kept_after_all kept (segments (s ++ rest)))
left_moved kept s r h d at_the_end =
    sym (ap (λ (l : List ℕ). text_of (kept_after_all kept (segments l))) (append-nil s) ∙ ap (λ (l : List Segment). text_of (kept_after_all kept l)) (segments_alone s h) ∙ ap text_of (last_other kept s d))
left_moved kept s r h d (at_a_slash rest) =
    sym (ap (λ (l : List Segment). text_of (kept_after_all kept l)) (segments_then s rest h) ∙ ap text_of (kept_step kept s rest) ∙ ap (λ (l : List Segment). text_of (kept_after_all l (segments rest))) (kept_other kept s d))

behind_a_slash : (i o r : List ℕ) → Removes i o r → (kept : List Segment) → Kept kept → o ≡ text_of kept → IsRooted i → r ≡ left_of kept i
behind_a_slash i o r (finished out) kept k e root = e
behind_a_slash i o r (rule_a_up rest out s d) kept k e root = absurd (omega arith)
behind_a_slash i o r (rule_a rest out s d) kept k e root = absurd (omega arith)
behind_a_slash i o r (rule_b rest out s d) kept k e root = behind_a_slash (slash ∷ rest) out s d kept k e refl ∙ sym (ap text_of (kept_step kept (codes ".") rest))
behind_a_slash i o r (rule_b_end out s d) kept k e root = behind_a_slash (codes "/") out s d kept k e refl
behind_a_slash i o r (rule_c rest out s d) kept k e root =
    behind_a_slash (slash ∷ rest) (without_last out) s d (climbed kept) (climbed_Kept kept k) (ap without_last e ∙ climbs kept k) refl ∙ sym (ap text_of (kept_step kept (codes "..") rest))
behind_a_slash i o r (rule_c_end out s d) kept k e root = behind_a_slash (codes "/") (without_last out) s d (climbed kept) (climbed_Kept kept k) (ap without_last e ∙ climbs kept k) refl
behind_a_slash i o r (rule_d out s d) kept k e root = absurd (omega arith)
behind_a_slash i o r (rule_d_up out s d) kept k e root = absurd (omega arith)
behind_a_slash i o r (rule_e s rest out t h n end d) kept k e root =
    behind_a_slash rest (out ++ slash ∷ s) t d (s ∷ kept) (pushed_Kept kept s h k) (ap (λ (l : List ℕ). l ++ slash ∷ s) e ∙ sym (text_push kept s k.some)) (rooted_ends rest end)
    ∙ left_moved kept s rest h n end
behind_a_slash i o r (rule_e_first b s rest out t h n end d) kept k e root =
    let w = or_parts (b == slash) (has_slash s) h in let yes : (b == slash) ≡ true = ap (λ x. eqb x 47) root in absurd (cc)

-- ---- from the start, with an empty output

rooted_by : (xs : List Segment) → HasFirst xs → text_of (kept_of (without_leading ([] ∷ xs))) ≡ text_of (kept_after_all ([] ∷ []) xs)
rooted_by xs f = ap (λ (l : List Segment). text_of (kept_of (without_leading ([] ∷ l)))) f.is ∙ sym (ap (λ (l : List Segment). text_of (kept_after_all ([] ∷ []) l)) f.is)

leading_by : (s : Segment) (xs : List Segment) → HasFirst xs → is_dots s ≡ true → text_of (kept_of (without_leading (s ∷ xs))) ≡ text_of (kept_of (without_leading xs))
leading_by s xs f h =
    ap (λ (l : List Segment). text_of (kept_of (without_leading (s ∷ l)))) f.is
    ∙ ap (λ b. text_of (kept_of (cond b (without_leading (f.first ∷ f.more)) (s ∷ f.first ∷ f.more)))) h
    ∙ sym (ap (λ (l : List Segment). text_of (kept_of (without_leading l))) f.is)

starts_with_slash : (i : List ℕ) → without_dots (slash ∷ i) ≡ left_of ([] ∷ []) (slash ∷ i)
unfolding without_dots
starts_with_slash i = rooted_by (segments i) (has_first i)

leading_goes : (s : Segment) (rest : List ℕ) → is_dots s ≡ true → text_of (kept_of (without_leading (s ∷ segments rest))) ≡ without_dots rest
unfolding without_dots
leading_goes s rest h = leading_by s (segments rest) (has_first rest) h

first_stays_by : (s : Segment) (xs : List Segment) → HasFirst xs → is_dots s ≡ false → kept_of (without_leading (s ∷ xs)) ≡ kept_after_all (s ∷ []) xs
first_stays_by s xs f h =
    ap (λ (l : List Segment). kept_of (without_leading (s ∷ l))) f.is
    ∙ ap (λ b. kept_of (cond b (without_leading (f.first ∷ f.more)) (s ∷ f.first ∷ f.more))) h
    ∙ sym (ap (kept_after_all (s ∷ [])) f.is)

first_moved : (s rest : List ℕ) → has_slash s ≡ false → is_dots s ≡ false → Ends rest → left_of (s ∷ []) rest ≡ without_dots (s ++ rest)
unfolding without_dots
first_moved s r h d at_the_end =
    sym (ap (λ (l : List ℕ). text_of (kept_of (without_leading (segments l)))) (append-nil s)
    ∙ ap (λ (l : List Segment). text_of (kept_of (without_leading l))) (segments_alone s h)
    ∙ ap (λ b. text_of (kept_of (cond b ([] ∷ []) (s ∷ [])))) d)
first_moved s r h d (at_a_slash rest) =
    sym (ap (λ (l : List Segment). text_of (kept_of (without_leading l))) (segments_then s rest h) ∙ ap text_of (first_stays_by s (segments rest) (has_first rest) d))

one_Kept : (s : Segment) → has_slash s ≡ false → Kept (s ∷ [])
one_Kept s h = record { some = omega arith; clean = (h, tt) }

rooted_start : (i r : List ℕ) (out : List ℕ) → Removes (slash ∷ i) out r → out ≡ [] → r ≡ without_dots (slash ∷ i)
rooted_start i r out d e = behind_a_slash (slash ∷ i) out r d ([] ∷ []) (one_Kept [] refl) e refl ∙ sym (starts_with_slash i)

from_the_start : (i o r : List ℕ) → Removes i o r → o ≡ [] → r ≡ without_dots i
unfolding without_dots
from_the_start i o r (finished out) e = e
from_the_start i o r (rule_a_up rest out s d) e = from_the_start rest out s d e ∙ sym (leading_goes (codes "..") rest refl)
from_the_start i o r (rule_a rest out s d) e = from_the_start rest out s d e ∙ sym (leading_goes (codes ".") rest refl)
from_the_start i o r (rule_b rest out s d) e = rooted_start (codes "./" ++ rest) s out (rule_b rest out s d) e
from_the_start i o r (rule_b_end out s d) e = rooted_start (codes ".") s out (rule_b_end out s d) e
from_the_start i o r (rule_c rest out s d) e = rooted_start (codes "../" ++ rest) s out (rule_c rest out s d) e
from_the_start i o r (rule_c_end out s d) e = rooted_start (codes "..") s out (rule_c_end out s d) e
from_the_start i o r (rule_d out s d) e = from_the_start [] out s d e
from_the_start i o r (rule_d_up out s d) e = from_the_start [] out s d e
from_the_start i o r (rule_e s rest out t h n end d) e = rooted_start (s ++ rest) t out (rule_e s rest out t h n end d) e
from_the_start i o r (rule_e_first b s rest out t h n end d) e =
    behind_a_slash rest (out ++ b ∷ s) t d ((b ∷ s) ∷ []) (one_Kept (b ∷ s) h) (ap (λ (l : List ℕ). l ++ b ∷ s) e) (rooted_ends rest end) ∙ first_moved (b ∷ s) rest h n end

pub no_other_result : (path r : List ℕ) → Removes path [] r → r ≡ without_dots path
no_other_result path r d = from_the_start path [] r d refl

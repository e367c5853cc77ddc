-- What resolving keeps: a text with a scheme, and the scheme of the base.
use Rattle.std.proofs.Common.{◌≡◌, ◌≢◌, ℕ, ◌+◌, ◌-◌, ◌<◌, ◌≤◌, Bool, true, false, cond, List, [], ◌∷◌, ◌++◌, Option, Some, None, length, take, get_or, eqb, refl, sym, ap, ◌∙◌, arith, append_assoc}
use Rattle.std.proofs.lemmas.Bool.{ne_eqb, eq-eqb, lt-ltb, and_from, cond-true, cond-false, and_parts, ltb-true}
use Rattle.std.proofs.lemmas.List.{get_or_append_left, get_or_at, get_or-take, length-take-le, length-append}
use Rattle.std.proofs.lemmas.List.Sums.{suffix_len_is, position_or_len_is, fails_before_first}
use Rattle.std.specs.Prelude.{not, codes, ◌||◌, is_some, nat_lt, IsTrue}
use Rattle.std.specs.Option.{option_map}
use Rattle.iri_core.specs.declared.parts.Span.{Span}
use Rattle.std.specs.List.{suffix_len, position_or_len}
use Rattle.iri_core.specs.Reference.{is_among, first_of, is_at, span, colon, scheme_by, scheme_of, has_scheme}
use Rattle.iri_core.specs.Resolution.{Components, piece_of, components, target, recomposed, resolved, scheme_text, behind, up_to_last_slash}
use Rattle.iri_core.proofs.Cuts.{stands_at, from_some}

-- the last slash stands here
pub up_to_slash : (path : List ℕ) (at : ℕ) → at < length path → get_or path at 0 ≡ 47 → ((i : ℕ) → at < i → i < length path → get_or path i 0 ≢ 47) → take (at + 1) path ≡ up_to_last_slash path
unfolding up_to_last_slash
up_to_slash path at lt here behind =
    let last : at + 1 - 1 ≡ at = omega arith in
    let size = suffix_len_is (λ b. not (eqb b 47)) path (at + 1) 0 (omega arith) (λ k le l. ap not (ne_eqb (get_or path k 0) 47 (behind k (omega arith) l))) (λ _. ap not (ap (λ n. eqb (get_or path n 0) 47) last ∙ eq-eqb (get_or path at 0) 47 here)) in
    ap (λ n. take n path) (omega arith)

pub without_slash : (path : List ℕ) → ((i : ℕ) → i < length path → get_or path i 0 ≢ 47) → [] ≡ up_to_last_slash path
unfolding up_to_last_slash
without_slash path none =
    let size = suffix_len_is (λ b. not (eqb b 47)) path 0 0 (omega arith) (λ k le l. ap not (ne_eqb (get_or path k 0) 47 (none k l))) (λ h. absurd (omega arith)) in
    let whole : 0 ≡ length path - suffix_len (λ b. not (eqb b 47)) path = omega arith in
    ap (λ n. take n path) whole

pub kept_as_written : (base text : List ℕ) → has_scheme text ≡ true → resolved base text ≡ text
kept_as_written base text h = cond-true (has_scheme text) text (recomposed (target (components base) (components text))) h

pub put_together : (base text : List ℕ) → has_scheme text ≡ false → resolved base text ≡ recomposed (target (components base) (components text))
put_together base text h = cond-false (has_scheme text) text (recomposed (target (components base) (components text))) h

-- some bytes without a mark
pub record IsUnmarked (s : List ℕ) : Type 0 where
  pub some : 0 < length s
  pub clean : (k : ℕ) → k < length s → is_among (codes ":/?#") (get_or s k 0) ≡ false

scheme_found : (s rest : List ℕ) → IsUnmarked s → has_scheme (s ++ colon ∷ rest) ≡ true
unfolding scheme_of first_of
scheme_found s rest u =
    let text = s ++ colon ∷ rest in
    let here : get_or text (length s) 0 ≡ colon = get_or_at s colon rest 0 (length s) refl in
    let long : length s < length text = omega (arith, length-append s (colon ∷ rest)) in
    let e = position_or_len_is (is_among (codes ":/?#")) text (length s) 0 (omega arith)
    (λ k h. ap (is_among (codes ":/?#")) (get_or_append_left s (colon ∷ rest) 0 k h) ∙ u.clean k h)
    (λ _. ap (is_among (codes ":/?#")) here) in
    let n : 0 + position_or_len (is_among (codes ":/?#")) text ≡ length s = omega arith in
    let colon_here : is_at text (length s) colon ≡ true = and_from (nat_lt (length s) (length text)) (eqb (get_or text (length s) 0) colon) (lt-ltb (length s) (length text) long) (eq-eqb (get_or text (length s) 0) colon here) in
    let both = and_from (nat_lt 0 (length s)) (is_at text (length s) colon) (lt-ltb 0 (length s) u.some) colon_here in
    ap (λ m. is_some (scheme_by text m)) n ∙ ap (λ b. is_some (cond b (Some (span 0 (length s))) None)) both

-- the scheme of a text, as its parts have it
record SchemePiece (base : List ℕ) : Type 0 where
  s : List ℕ
  is : (components base).scheme ≡ Some s
  unmarked : IsUnmarked s

scheme_piece_by : (base : List ℕ) (o : Option Span) → scheme_of base ≡ o → is_some o ≡ true → SchemePiece base
unfolding components scheme_of first_of
scheme_piece_by base None e h = absurd (cc)
scheme_piece_by base (Some sp) e h =
    let n = position_or_len (is_among (codes ":/?#")) base in
    let w = from_some _ (span 0 (0 + n)) sp e in
    let parts = and_parts (nat_lt 0 (0 + n)) (is_at base (0 + n) colon) w.0 in
    let at = stands_at base (0 + n) colon parts.1 in
    let zero_first : 0 < 0 + n = ltb-true 0 (0 + n) parts.0 in
    let zero_plus : 0 + n - 0 ≡ n = omega arith in
    let within : n ≤ length base = let l = at.within in omega arith in
    let size : length (take n base) ≡ n = length-take-le n base within in
    record {
      s = take n base;
      is = ap (option_map (piece_of base)) (e ∙ ap (λ (x : Span). Some x) (sym w.1)) ∙ ap (λ m. Some (take m base)) zero_plus;
      unmarked = record {
        some = omega arith;
        clean = λ k h. ap (is_among (codes ":/?#")) (get_or-take n base k 0 (omega arith)) ∙ fails_before_first (is_among (codes ":/?#")) base k 0 (omega arith);
      };
    }

regrouped : (s a p q f : List ℕ) → (((s ++ colon ∷ []) ++ a) ++ p) ++ q ++ f ≡ s ++ colon ∷ (a ++ (p ++ (q ++ f)))
regrouped s a p q f = simp append_assoc

with_scheme : (c : Components) (s : List ℕ) → c.scheme ≡ Some s → IsUnmarked s → has_scheme (recomposed c) ≡ true
with_scheme c s e u =
    let a = behind (codes "//") c.authority in
    let q = behind (codes "?") c.query in
    let f = behind (codes "#") c.fragment in
    ap (λ (o : Option (List ℕ)). has_scheme (scheme_text o ++ a ++ c.path ++ q ++ f)) e
    ∙ ap has_scheme (regrouped s a c.path q f)
    ∙ scheme_found s (a ++ (c.path ++ (q ++ f))) u

base_scheme_stays : (base text : List ℕ) → has_scheme base ≡ true → has_scheme (recomposed (target (components base) (components text))) ≡ true
base_scheme_stays base text h =
    let p = scheme_piece_by base (scheme_of base) refl h in
    with_scheme (target (components base) (components text)) p.s p.is p.unmarked

-- the answer is that of the definition, and has a scheme where one of the two has
pub together : (base text out answer : List ℕ) (b r : Components) → has_scheme text ≡ false → b ≡ components base → r ≡ components text → out ≡ recomposed (target b r) → answer ≡ out → answer ≡ resolved base text
together base text out answer b r none e f g h =
    h ∙ g ∙ ap (λ (x : Components). recomposed (target x r)) e ∙ ap (λ (x : Components). recomposed (target (components base) x)) f ∙ sym (put_together base text none)

some_scheme_by : (x y : Bool) (base text answer : List ℕ) → has_scheme base ≡ x → has_scheme text ≡ y → answer ≡ resolved base text → IsTrue (x || y) → IsTrue (has_scheme answer)
some_scheme_by x true base text answer e f g h = ap has_scheme (g ∙ kept_as_written base text f) ∙ f
some_scheme_by true false base text answer e f g h = ap has_scheme (g ∙ put_together base text f) ∙ base_scheme_stays base text e
some_scheme_by false false base text answer e f g h = absurd (cc)

pub some_scheme : (base text answer : List ℕ) → answer ≡ resolved base text → IsTrue (has_scheme base || has_scheme text) → IsTrue (has_scheme answer)
some_scheme base text answer g h = some_scheme_by (has_scheme base) (has_scheme text) base text answer refl refl g h

-- The lines of an N-Triples text, as its tokens tell them, are those that its line ends cut.
use Rattle.std.proofs.Common.{◌≡◌, ◌≢◌, ℕ, zero, suc, ◌+◌, ◌-◌, ◌<◌, ◌≤◌, List, [], ◌∷◌, length, drop, slice_range, Option, Some, None, true, false, refl, sym, ap, subst, ◌∙◌, inl, inr, arith, nat_lt, length-drop}
use Rattle.std.specs.Prelude.{slice_index}
use Rattle.std.specs.List.{position, position_or_len}
use Rattle.std.proofs.lemmas.Bool.{cases_lt, cond_both, ltb-false, ltb-true}
use Rattle.std.proofs.lemmas.List.{get_or-drop, get_or-take, length-take-le}
use Rattle.std.proofs.lemmas.List.Sums.{fails_before_first, passes_at_first}
use Rattle.rdf_terms.specs.Lists.{IsIn}
use Rattle.turtle_lexer.specs.declared.kind.TurtleKind.{TurtleKind}
use Rattle.turtle_lexer.specs.declared.kind.TurtleKind.TheVariants as kinds
use Rattle.turtle_lexer.specs.declared.token.Token.{Token}
use Rattle.turtle_lexer.specs.Tokens.{NTriplesTokens, is_last}
use Rattle.ntriples_reader.specs.declared.piece.Piece.TheVariants as pieces
use Rattle.ntriples_reader.specs.declared.piece.Item.{Item}
use Rattle.ntriples_reader.specs.Grammar.{place}
use Rattle.ntriples_reader.specs.Lines.{Line, Lines, is_line_end, is_end, placed, line_end_between, broken, from_token, lines_from, lines_of}
use Rattle.ntriples_reader.specs.Pieces.{piece_of, item_of}
use Rattle.definition_laws.specs.TextLines.{HasNoLineEnd, AreOnOneLine, AreCut, all_lines}
use Rattle.definition_laws.proofs.InOrder.{IsSome, Ordered, all_ordered}
use Rattle.definition_laws.proofs.OneLine.{IsClear, TokenIsClear, tokens_clear}

module _ (bytes : List ℕ) where
  -- ---- what stands in a slice stands in the text

  in_slice : (from to n : ℕ) → from ≤ n → n < to → slice_index (slice_range bytes from to) (n - from) ≡ slice_index bytes n
  in_slice from to n a b =
      let back : from + (n - from) ≡ n = omega arith in
      get_or-take (to - from) (drop from bytes) (n - from) 0 (omega arith) ∙ get_or-drop from bytes (n - from) 0 ∙ ap (λ k. slice_index bytes k) back

  clear_at : (xs : List ℕ) (k : ℕ) → IsClear xs → is_line_end (slice_index xs k) ≡ false
  clear_at [] k h = refl
  clear_at (x ∷ xs) zero h = h.0
  clear_at (x ∷ xs) (suc k) h = clear_at xs k h.1

  no_end_in : (from to : ℕ) → IsClear (slice_range bytes from to) → HasNoLineEnd bytes from to
  no_end_in from to h n a b = ap is_line_end (sym (in_slice from to n a b)) ∙ clear_at (slice_range bytes from to) (n - from) h

  no_end_join : (from mid to : ℕ) → HasNoLineEnd bytes from mid → HasNoLineEnd bytes mid to → HasNoLineEnd bytes from to
  no_end_join from mid to p q n a b = elim (cases_lt n mid) [ inl h ↦ p n a h | inr h ↦ q n h b ]

  -- ---- gaps

  abbrev EndsLine : ℕ → Type 0
  EndsLine n = is_line_end (slice_index bytes n) ≡ true

  abbrev GapFacts : ℕ → ℕ → Option ℕ → Type 0
  GapFacts from to None = HasNoLineEnd bytes from to
  GapFacts from to (Some i) = (from + i < to) × EndsLine (from + i) × HasNoLineEnd bytes from (from + i)

  gap : (from to : ℕ) → from ≤ to → to ≤ length bytes → GapFacts from to (position is_line_end (slice_range bytes from to))
  gap from to le within =
      let s : List ℕ = slice_range bytes from to in
      let first : ℕ = position_or_len is_line_end s in
      let len : length s ≡ to - from = length-take-le (to - from) (drop from bytes) (omega (arith, length-drop from bytes)) in
      let before : (n : ℕ) → from ≤ n → n < to → n - from < first → is_line_end (slice_index bytes n) ≡ false =
      λ n a b c. ap is_line_end (sym (in_slice from to n a b)) ∙ fails_before_first is_line_end s (n - from) 0 c in
      cond_both (nat_lt first (length s)) _ _ (λ (o : Option ℕ). GapFacts from to o)
      (λ e.
      let lt : first < length s = ltb-true first (length s) e in
      let back : from + first - from ≡ first = omega arith in (
        omega arith,
        ap is_line_end (sym (in_slice from to (from + first) (omega arith) (omega arith)) ∙ ap (λ k. slice_index s k) back) ∙ passes_at_first is_line_end s 0 lt,
        λ n a b. before n a (omega arith) (omega arith),
      ))
      (λ e. let ge : length s ≤ first = ltb-false first (length s) e in λ n a b. before n a b (omega arith))

  -- ---- lines from a token on

  record Stands (at : ℕ) (ls : Lines) : Type 0 where
    pub one : AreOnOneLine bytes (all_lines ls)
    pub cut : AreCut bytes (all_lines ls)
    pub from : at ≤ place ls

  cut_before : (items more : List Item) (end : ℕ) (ls : List Line) → AreCut bytes (record { items = items; end = end } ∷ ls) → AreCut bytes (record { items = more; end = end } ∷ ls)
  cut_before items more end [] h = h
  cut_before items more end (m ∷ ls) h = h

  taken_not_last : (k : TurtleKind) (b : List ℕ) → piece_of k b ≢ pieces.Other → is_last k ≡ false
  taken_not_last kinds.Bad b h = absurd (h refl)
  taken_not_last kinds.End b h = absurd (h refl)
  taken_not_last _ b h = refl

  abbrev FromToken : Token → Lines → Type 0
  FromToken t ls = AreOnOneLine bytes (all_lines ls) × AreCut bytes (all_lines ls) × (place ls ≡ t.from)

  token_stands : (t : Token) (ts : List Token) (ls : Lines) → (is_end t.kind ≡ true → t.from ≡ length bytes) → (is_last t.kind ≡ false → IsSome ts) → t.from ≤ t.to → TokenIsClear bytes t
      → Stands t.to ls → (IsSome ts → HasNoLineEnd bytes t.to (place ls)) → FromToken t (from_token bytes t ls)
  unfolding item_of
  token_stands t ts ls end more le clear stands free =
      cond_both (is_end t.kind) _ _ (λ (l : Lines). FromToken t l)
      (λ e. ((tt, tt), end e, refl))
      (λ _. (
        ((omega (arith, stands.from), (λ taken. no_end_join t.from t.to (place ls) (no_end_in t.from t.to (clear taken)) (free (more (taken_not_last t.kind _ taken)))), stands.one.0), stands.one.1),
        cut_before ls.items (item_of bytes t ∷ ls.items) ls.end ls.more stands.cut,
        refl,
      ))

  -- ---- and from the gap before it on

  abbrev FromGap : ℕ → Lines → Type 0
  FromGap at ls = Stands at ls × HasNoLineEnd bytes at (place ls)

  broken_stands : (at : ℕ) (t : Token) (ls : Lines) (o : Option ℕ) → at ≤ t.from → t.from ≤ length bytes → GapFacts at t.from o → FromToken t ls → FromGap at (broken (placed at o) ls)
  broken_stands at t ls None le within g f = (
    record { one = f.0; cut = f.1; from = omega (arith, f.2) },
    subst (λ (n : ℕ). HasNoLineEnd bytes at n) (sym f.2) g,
  )
  broken_stands at t ls (Some i) le within g f = (
    record { one = (tt, f.0); cut = (omega (arith, g.0), g.1, omega (arith, g.0, f.2), f.1); from = omega arith },
    g.2,
  )

  lines_stand : (at : ℕ) (ts : List Token) → Ordered (length bytes) at ts → ((t : Token) → IsIn ts t → TokenIsClear bytes t)
      → Stands at (lines_from bytes at ts) × (IsSome ts → HasNoLineEnd bytes at (place (lines_from bytes at ts)))
  unfolding lines_from line_end_between
  lines_stand at [] o clear = (record { one = (tt, tt); cut = refl; from = o }, λ some. absurd (let e = some.2 in cc))
  lines_stand at (t ∷ ts) o clear =
      let r = lines_stand t.to ts o.5 (λ u i. clear u (inr i)) in
      let f = token_stands t ts (lines_from bytes t.to ts) o.3 o.4 o.1 (clear t (inl refl)) r.0 r.1 in
      let within : t.from ≤ length bytes = omega (arith, o.1, o.2) in
      let b = broken_stands at t (from_token bytes t (lines_from bytes t.to ts)) (position is_line_end (slice_range bytes at t.from)) o.0 within (gap at t.from o.0 within) f in
      (b.0, λ some. b.1)

pub lines_one : (bytes : List ℕ) (ts : List Token) → NTriplesTokens bytes ts → AreOnOneLine bytes (all_lines (lines_of bytes ts))
lines_one bytes ts are = (lines_stand bytes 0 ts (all_ordered bytes ts are) (tokens_clear bytes ts are)).0.one

pub lines_cut : (bytes : List ℕ) (ts : List Token) → NTriplesTokens bytes ts → AreCut bytes (all_lines (lines_of bytes ts))
lines_cut bytes ts are = (lines_stand bytes 0 ts (all_ordered bytes ts are) (tokens_clear bytes ts are)).0.cut

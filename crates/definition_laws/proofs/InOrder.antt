-- The tokens of an N-Triples text stand one behind the other, and its end at the text's end.
use Rattle.std.proofs.Common.{◌≡◌, ℕ, zero, suc, ◌+◌, ◌<◌, ◌≤◌, List, [], ◌∷◌, length, take, drop, Option, Some, None, Bool, true, false, refl, sym, ap, subst, ◌∙◌, ◌&&◌, arith, length-drop, nat_eq}
use Rattle.std.specs.List.{starts_with}
use Rattle.std.proofs.lemmas.Bool.{and_parts, cond_both}
use Rattle.terminals.specs.Utf8.{Symbol, symbol_by, decoded, symbols_of, class_at, width_of}
use Rattle.terminals.specs.Tokens.{lexes_end, lexes_white, lexes_hash, lexes_comment, lexes_ill, lexes_token, lexes_bad}
use Rattle.terminals.proofs.Symbols.{symbols_end, symbols_more, symbols_from}
use Rattle.terminals.proofs.Spelling.{spelled}
use Rattle.turtle_lexer.specs.declared.dialect.Dialect.TheVariants as dialects
use Rattle.turtle_lexer.specs.declared.kind.TurtleKind.{TurtleKind}
use Rattle.turtle_lexer.specs.declared.kind.TurtleKind.TheVariants as kinds
use Rattle.turtle_lexer.specs.declared.token.Token.{Token}
use Rattle.turtle_lexer.specs.Rules.{ntriples_rule_of}
use Rattle.turtle_lexer.specs.Tokens.{LexesIn, NTriplesTokens, byte_order_mark, is_last, skipped}
use Rattle.ntriples_reader.specs.Lines.{is_end}
use Rattle.definition_laws.proofs.Matching.{Matches, matches}

-- ---- symbols take no more bytes than there are

first_width : (bytes : List ℕ) (o : Option (ℕ × ℕ)) → decoded bytes ≡ o → 0 < length bytes → suc (symbol_by o).extra ≤ length bytes
first_width bytes None e some = omega (arith, some)
first_width bytes (Some x) e some = omega (arith, (spelled bytes x e).0)

pub width_within : (n : ℕ) (bytes : List ℕ) → width_of (take n (symbols_of bytes)) ≤ length bytes
width_within zero bytes = omega arith
width_within (suc n) [] = subst (λ (xs : List Symbol). width_of (take (suc n) xs) ≤ 0) (sym (symbols_end [] refl)) (omega arith)
width_within (suc n) (b ∷ bytes) =
    let all : List ℕ = b ∷ bytes in
    let x : Symbol = symbol_by (decoded all) in
    let first = first_width all (decoded all) refl (omega arith) in
    let more = width_within n (drop (suc x.extra) all) in
    subst (λ (xs : List Symbol). width_of (take (suc n) xs) ≤ length all) (sym (symbols_more all x refl)) (omega (arith, first, more, length-drop (suc x.extra) all))

none_left : (bytes : List ℕ) → [] ≡ symbols_of bytes → length bytes ≡ 0
none_left [] e = refl
none_left (b ∷ bytes) e = absurd (let f = symbols_more (b ∷ bytes) (symbol_by (decoded (b ∷ bytes))) refl in cc)

-- ---- so each token ends within the text

abbrev pub IsSome : List Token → Type 0
IsSome ts = (t : Token) × (us : List Token) × (ts ≡ t ∷ us)

-- behind the place, within so many bytes; what is not the last has one behind it
abbrev pub Ordered : ℕ → ℕ → List Token → Type 0
Ordered len at [] = at ≤ len
Ordered len at (t ∷ ts) = (at ≤ t.from) × (t.from ≤ t.to) × (t.to ≤ len) × (is_end t.kind ≡ true → t.from ≡ len) × (is_last t.kind ≡ false → IsSome ts) × Ordered len t.to ts

earlier : (len at to : ℕ) (ts : List Token) → at ≤ to → Ordered len to ts → Ordered len at ts
earlier len at to [] h o = omega (arith, o)
earlier len at to (t ∷ ts) h o = (omega (arith, o.0), o.1, o.2, o.3, o.4, o.5)

no_end : (k : TurtleKind) (xs : List Symbol) → Matches class_at (ntriples_rule_of k) xs → is_end k ≡ true → ⊥
no_end kinds.End xs m e = m
no_end _ xs m e = absurd cc

some_left : (c : Bool) (at : ℕ) (xs : List Symbol) (ts : List Token) → LexesIn dialects.NTriples c at xs ts → IsSome ts
some_left c at [] _ lexes_end = (_, [], refl)
some_left false at (x ∷ xs) _ (lexes_white {ts} is r) = some_left false _ xs ts r
some_left false at (x ∷ xs) _ (lexes_hash {ts} is r) = some_left true _ xs ts r
some_left true at (x ∷ xs) _ (lexes_comment {ts} is r) = some_left _ _ xs ts r
some_left true at (x ∷ xs) _ (lexes_ill is) = (_, [], refl)
some_left false at (x ∷ xs) _ (lexes_token {ts} no_white no_hash longest is r) = (_, ts, refl)
some_left false at (x ∷ xs) _ (lexes_bad no_white no_hash none) = (_, [], refl)

module _ (bytes : List ℕ) where
  -- n symbols further on
  beyond : (at to n : ℕ) (xs : List Symbol) → xs ≡ symbols_of (drop at bytes) → at ≤ length bytes → to ≡ at + width_of (take n xs) → to ≤ length bytes
  beyond at to n xs e within is = omega (arith, width_within n (drop at bytes), ap (λ (l : List Symbol). width_of (take n l)) e, length-drop at bytes)

  behind : (at to n : ℕ) (xs : List Symbol) → xs ≡ symbols_of (drop at bytes) → to ≡ at + width_of (take n xs) → drop n xs ≡ symbols_of (drop to bytes)
  behind at to n xs e is = ap (drop n) e ∙ symbols_from bytes at to n (is ∙ ap (λ (l : List Symbol). at + width_of (take n l)) e)

  one_on : (at : ℕ) (x : Symbol) (xs : List Symbol) → x ∷ xs ≡ symbols_of (drop at bytes) → at ≤ length bytes → (xs ≡ symbols_of (drop (at + suc x.extra) bytes)) × (at + suc x.extra ≤ length bytes)
  one_on at x xs e within =
      let is : at + suc x.extra ≡ at + width_of (take 1 (x ∷ xs)) = omega arith in
      (behind at (at + suc x.extra) 1 (x ∷ xs) e is, beyond at (at + suc x.extra) 1 (x ∷ xs) e within is)

  ordered : (c : Bool) (at : ℕ) (xs : List Symbol) (ts : List Token) → xs ≡ symbols_of (drop at bytes) → at ≤ length bytes → LexesIn dialects.NTriples c at xs ts → Ordered (length bytes) at ts
  ordered c at [] _ e within lexes_end =
      let end : at ≡ length bytes = omega (arith, none_left (drop at bytes) e, length-drop at bytes) in
      (omega arith, omega arith, within, λ _. end, (λ no. absurd cc), within)
  ordered false at (x ∷ xs) _ e within (lexes_white {ts} is r) = let o = one_on at x xs e within in earlier (length bytes) at (at + suc x.extra) ts (omega arith) (ordered false (at + suc x.extra) xs ts o.0 o.1 r)
  ordered false at (x ∷ xs) _ e within (lexes_hash {ts} is r) = let o = one_on at x xs e within in earlier (length bytes) at (at + suc x.extra) ts (omega arith) (ordered true (at + suc x.extra) xs ts o.0 o.1 r)
  ordered true at (x ∷ xs) _ e within (lexes_comment {ts} is r) = let o = one_on at x xs e within in earlier (length bytes) at (at + suc x.extra) ts (omega arith) (ordered _ (at + suc x.extra) xs ts o.0 o.1 r)
  ordered true at (x ∷ xs) _ e within (lexes_ill is) = (omega arith, omega arith, within, (λ no. absurd cc), (λ no. absurd cc), within)
  ordered false at (x ∷ xs) _ e within (lexes_token {to} {k} {n} {ts} no_white no_hash longest is r) =
      let more : to ≤ length bytes = beyond at to n (x ∷ xs) e within is in (
        omega arith,
        omega arith,
        more,
        (λ end. absurd (no_end k (take n (x ∷ xs)) (matches class_at (ntriples_rule_of k) (take n (x ∷ xs)) longest.allowed) end)),
        (λ _. some_left false to (drop n (x ∷ xs)) ts r),
        ordered false to (drop n (x ∷ xs)) ts (behind at to n (x ∷ xs) e is) more r,
      )
  ordered false at (x ∷ xs) _ e within (lexes_bad no_white no_hash none) = (omega arith, omega arith, within, (λ no. absurd cc), (λ no. absurd cc), within)

-- ---- from the text's beginning on

mark_within : (bytes : List ℕ) → starts_with nat_eq bytes byte_order_mark ≡ true → 3 ≤ length bytes
mark_within [] e = absurd cc
mark_within (a ∷ []) e = absurd (let p = and_parts (nat_eq 0xef a) false e in cc)
mark_within (a ∷ b ∷ []) e = absurd (let p = and_parts (nat_eq 0xef a) (nat_eq 0xbb b && false) e in let q = and_parts (nat_eq 0xbb b) false p.1 in cc)
mark_within (a ∷ b ∷ c ∷ bytes) e = omega arith

skipped_within : (bytes : List ℕ) → skipped bytes ≤ length bytes
skipped_within bytes = cond_both (starts_with nat_eq bytes byte_order_mark) _ _ (λ (n : ℕ). n ≤ length bytes) (λ e. mark_within bytes e) (λ _. omega arith)

pub all_ordered : (bytes : List ℕ) (ts : List Token) → NTriplesTokens bytes ts → Ordered (length bytes) 0 ts
all_ordered bytes ts are =
    earlier (length bytes) 0 (skipped bytes) ts (omega arith) (ordered bytes false (skipped bytes) (symbols_of (drop (skipped bytes) bytes)) ts refl (skipped_within bytes) are)

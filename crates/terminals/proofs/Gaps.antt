-- What a gap is, for the tokens of a text.
use Rattle.std.proofs.Common.{◌≡◌, ℕ, suc, ◌+◌, ◌-◌, ◌<◌, ◌||◌, length, Some, None, List, [], ◌∷◌, take, drop, Bool, true, false, not, cond, refl, sym, ap, subst, ◌∙◌, arith}
use Rattle.terminals.specs.declared.class.Class.{Class}
use Rattle.terminals.specs.declared.gap.Gap.{Gap}
use Rattle.terminals.specs.declared.gap.Gap.TheVariants as gaps
use Rattle.terminals.specs.Utf8.{Symbol, first_symbol, symbol_of, symbols_of, width_of}
use Rattle.terminals.specs.Groups.{is_white, is_hash, is_line_end}
use Rattle.terminals.specs.Rules.{Rule}
use Rattle.terminals.specs.Tokens.{Lexes, lexes_end, lexes_white, lexes_hash, lexes_comment, lexes_ill}
use Rattle.terminals.specs.Gap.{is_gap, goes_on, gap_stop, gap_of}
use Rattle.terminals.proofs.Symbols.{here, width_is, none_here}

-- no gap begins here, and the text does not end
pub data IsText : List Symbol → Type 0 where
  is_text : {x : Symbol} {xs : List Symbol} → is_white x.class ≡ false → is_hash x.class ≡ false → IsText (x ∷ xs)

not_true : (b : Bool) → not b ≡ true → b ≡ false
not_true true e = absurd cc
not_true false e = refl

not_false : (b : Bool) → not b ≡ false → b ≡ true
not_false true e = refl
not_false false e = absurd cc

neither : (a b : Bool) → a || b ≡ false → (a ≡ false) × (b ≡ false)
neither true b e = absurd cc
neither false b e = (refl, e)

module _ {K T : Type 0} (rule_of : K → Rule) (token : K → ℕ → ℕ → T) (bad last : K) where
  -- what the end of a gap says of the tokens in front of it
  abbrev pub Ends : Bool → ℕ → List Symbol → Gap → Type 0
  Ends c at xs (gaps.Token to) = (n : ℕ) × (to ≡ at + width_of (take n xs)) × IsText (drop n xs) × ((ts : List T) → Lexes rule_of token bad last false to (drop n xs) ts → Lexes rule_of token bad last c at xs ts)
  Ends c at xs (gaps.Ill to) = Lexes rule_of token bad last c at xs (token bad to to ∷ [])
  Ends c at xs (gaps.End to) = Lexes rule_of token bad last c at xs (token last to to ∷ [])

  -- one more character in front
  more : (c d : Bool) (at : ℕ) (x : Symbol) (xs : List Symbol) → ((ts : List T) → Lexes rule_of token bad last d (at + suc x.extra) xs ts → Lexes rule_of token bad last c at (x ∷ xs) ts)
      → (g : Gap) → Ends d (at + suc x.extra) xs g → Ends c at (x ∷ xs) g
  more c d at x xs go (gaps.Token to) e = (suc e.0, omega (arith, e.1), e.2, λ ts r. go ts (e.3 ts r))
  more c d at x xs go (gaps.Ill to) e = go _ e
  more c d at x xs go (gaps.End to) e = go _ e

  gap_outside : (h w : Bool) (at : ℕ) (x : Symbol) (xs : List Symbol) (g : Gap) → is_hash x.class ≡ h → is_white x.class ≡ w → h || w ≡ true → Ends (is_hash x.class) (at + suc x.extra) xs g → Ends false at (x ∷ xs) g
  gap_outside true w at x xs g e f is below = more false true at x xs (λ ts r. lexes_hash e r) g (subst (λ (b : Bool). Ends b (at + suc x.extra) xs g) e below)
  gap_outside false true at x xs g e f is below = more false false at x xs (λ ts r. lexes_white f r) g (subst (λ (b : Bool). Ends b (at + suc x.extra) xs g) e below)
  gap_outside false false at x xs g e f is below = absurd cc

  ends_on : (c b : Bool) (at : ℕ) (x : Symbol) (xs : List Symbol) (g : Gap) → is_gap c x.class ≡ b → Ends (goes_on c x.class) (at + suc x.extra) xs g → Ends c at (x ∷ xs) (cond b g (gap_stop c at))
  ends_on true true at x xs g e below = more true (not (is_line_end x.class)) at x xs (λ ts r. lexes_comment (not_true _ e) r) g below
  ends_on true false at x xs g e below = lexes_ill (not_false _ e)
  ends_on false true at x xs g e below = gap_outside (is_hash x.class) (is_white x.class) at x xs g refl refl e below
  ends_on false false at x xs g e below = let w = neither (is_hash x.class) (is_white x.class) e in (0, omega arith, is_text w.1 w.0, λ ts r. r)

  pub gap_ends : (xs : List Symbol) (c : Bool) (at : ℕ) → Ends c at xs (gap_of c at xs)
  unfolding gap_of
  gap_ends [] c at = lexes_end
  gap_ends (x ∷ xs) c at = ends_on c (is_gap c x.class) at x xs _ refl (gap_ends xs (goes_on c x.class) (at + suc x.extra))

-- ---- the loop

pub gap_more : (bytes : List ℕ) (c : Bool) (at width : ℕ) (class : Class) → Some (symbol_of (class, width)) ≡ first_symbol (take (length bytes - at) (drop at bytes)) → 0 < width → is_gap c class ≡ true
    → gap_of (goes_on c class) (at + width) (symbols_of (drop (at + width) bytes)) ≡ gap_of c at (symbols_of (drop at bytes))
unfolding gap_of
gap_more bytes c at width class e pos is =
    let h = here bytes at class width e pos in
    sym (ap (gap_of c at) h ∙ ap (λ b. cond b (gap_of (goes_on c class) (at + suc (width - 1)) (symbols_of (drop (at + width) bytes))) (gap_stop c at)) is
    ∙ ap (λ n. gap_of (goes_on c class) n (symbols_of (drop (at + width) bytes))) (width_is at width pos))

pub gap_stops : (bytes : List ℕ) (c : Bool) (at width : ℕ) (class : Class) → Some (symbol_of (class, width)) ≡ first_symbol (take (length bytes - at) (drop at bytes)) → 0 < width → is_gap c class ≡ false
    → gap_stop c at ≡ gap_of c at (symbols_of (drop at bytes))
unfolding gap_of
gap_stops bytes c at width class e pos is =
    let h = here bytes at class width e pos in
    sym (ap (gap_of c at) h ∙ ap (λ b. cond b (gap_of (goes_on c class) (at + suc (width - 1)) (symbols_of (drop (at + width) bytes))) (gap_stop c at)) is)

pub gap_over : (bytes : List ℕ) (c : Bool) (at : ℕ) → None ≡ first_symbol (take (length bytes - at) (drop at bytes)) → gaps.End at ≡ gap_of c at (symbols_of (drop at bytes))
unfolding gap_of
gap_over bytes c at e = sym (ap (gap_of c at) (none_here bytes at e))

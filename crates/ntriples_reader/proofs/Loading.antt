-- What stands at a cursor.
use Rattle.std.proofs.Common.{◌≡◌, ℕ, ◌-◌, List, [], ◌∷◌, length, take, drop, Option, Some, None, refl, sym, ap, subst, ◌∙◌, arith}
use Rattle.std.specs.Prelude.{slice_range, position}
use Rattle.turtle_lexer.specs.declared.token.Token.{Token}
use Rattle.ntriples_reader.specs.Lines.{Lines, is_line_end, placed, line_end_between, broken, line_before, last_line, from_token, lines_from}

-- no line ends between a place and itself
here : (bytes : List ℕ) (at : ℕ) → line_end_between bytes at at ≡ None
unfolding line_end_between
here bytes at = let e : at - at ≡ 0 = omega arith in ap (λ (n : ℕ). placed at (position is_line_end (take n (drop at bytes)))) e

pub load_end : (bytes : List ℕ) (at : ℕ) (ts : List Token) → length ts ≡ 0 → last_line (length bytes) ≡ lines_from bytes at ts
unfolding lines_from
load_end bytes at [] e = refl
load_end bytes at (t ∷ ts) e = absurd (omega (arith, e))

lines_at : (bytes : List ℕ) (at : ℕ) (t : Token) (ts : List Token) (o : Option ℕ) → line_end_between bytes at t.from ≡ o → lines_from bytes at (t ∷ ts) ≡ broken o (from_token bytes t (lines_from bytes t.to ts))
unfolding lines_from
lines_at bytes at t ts o e = ap (λ (o : Option ℕ). broken o (from_token bytes t (lines_from bytes t.to ts))) e

module _ (bytes : List ℕ) (at : ℕ) (t : Token) (ts all : List Token) (is : all ≡ t ∷ ts) where
  pub load_line_end : (n : ℕ) → line_end_between bytes at t.from ≡ Some n → line_before n (lines_from bytes t.from all) ≡ lines_from bytes at all
  load_line_end n e =
      let now = ap (lines_from bytes at) is ∙ lines_at bytes at t ts (Some n) e in
      let behind = ap (lines_from bytes t.from) is ∙ lines_at bytes t.from t ts None (here bytes t.from) in
      ap (line_before n) behind ∙ sym now

  pub load_token : line_end_between bytes at t.from ≡ None → from_token bytes t (lines_from bytes t.to ts) ≡ lines_from bytes at all
  load_token e = sym (ap (lines_from bytes at) is ∙ lines_at bytes at t ts None e)

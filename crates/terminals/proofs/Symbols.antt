-- A text, symbol by symbol.
use Rattle.std.proofs.Common.{◌≡◌, ℕ, zero, suc, ◌+◌, ◌-◌, ◌<◌, ◌≤◌, List, [], ◌∷◌, length, take, drop, Option, Some, None, refl, sym, ap, ◌∙◌, arith, length-drop}
use Rattle.std.proofs.lemmas.List.{drop-drop, take_all}
use Rattle.terminals.specs.declared.class.Class.{Class}
use Rattle.terminals.specs.Utf8.{Symbol, symbol_by, decoded, first_symbol, symbol_of, symbols_upto, symbols_of, width_of}

-- the symbol at the front
pub first_of : (bytes : List ℕ) → 0 < length bytes → first_symbol bytes ≡ Some (symbol_by (decoded bytes))
first_of [] lt = absurd (omega arith)
first_of (b ∷ bytes) lt = refl

symbols_stable : (m n : ℕ) (bytes : List ℕ) → length bytes ≤ m → length bytes ≤ n → symbols_upto m bytes ≡ symbols_upto n bytes
unfolding symbols_upto
symbols_stable zero zero bytes l r = refl
symbols_stable zero (suc n) [] l r = refl
symbols_stable zero (suc n) (b ∷ bytes) l r = absurd (omega arith)
symbols_stable (suc m) zero [] l r = refl
symbols_stable (suc m) zero (b ∷ bytes) l r = absurd (omega arith)
symbols_stable (suc m) (suc n) [] l r = refl
symbols_stable (suc m) (suc n) (b ∷ bytes) l r =
    let x = symbol_by (decoded (b ∷ bytes)) in
    let e = length-drop x.extra bytes in
    ap (λ t. x ∷ t) (symbols_stable m n (drop x.extra bytes) (omega arith) (omega arith))

-- no bytes, no symbols
pub symbols_end : (bytes : List ℕ) → length bytes ≡ 0 → symbols_of bytes ≡ []
unfolding symbols_upto
symbols_end [] e = refl
symbols_end (b ∷ bytes) e = absurd (omega arith)

-- the first symbol, and those of the bytes behind it
pub symbols_more : (bytes : List ℕ) (x : Symbol) → first_symbol bytes ≡ Some x → symbols_of bytes ≡ x ∷ symbols_of (drop (suc x.extra) bytes)
unfolding symbols_upto
symbols_more [] x e = absurd cc
symbols_more (b ∷ bytes) x e =
    let y = symbol_by (decoded (b ∷ bytes)) in
    let same : y ≡ x = cc in
    let l = length-drop y.extra bytes in
    ap (λ t. y ∷ t) (symbols_stable (length bytes) (length (drop y.extra bytes)) (drop y.extra bytes) (omega arith) (omega arith))
    ∙ ap (λ (z : Symbol). z ∷ symbols_of (drop (suc z.extra) (b ∷ bytes))) same

no_first : (bytes : List ℕ) → None ≡ first_symbol bytes → length bytes ≡ 0
no_first [] e = refl
no_first (b ∷ bytes) e = absurd cc

-- what a slice of the rest begins with
pub first_at : (bytes : List ℕ) (at : ℕ) (r : Option Symbol) → r ≡ first_symbol (take (length bytes - at) (drop at bytes)) → r ≡ first_symbol (drop at bytes)
first_at bytes at r e = e ∙ ap first_symbol (take_all (length bytes - at) (drop at bytes) (omega (arith, length-drop at bytes)))

-- behind n symbols stand those of the bytes behind them
pub symbols_drop : (n : ℕ) (bytes : List ℕ) → drop n (symbols_of bytes) ≡ symbols_of (drop (width_of (take n (symbols_of bytes))) bytes)
symbols_drop zero bytes = refl
symbols_drop (suc n) [] = let e = symbols_end [] refl in ap (drop (suc n)) e ∙ sym (ap (λ xs. symbols_of (drop (width_of (take (suc n) xs)) [])) e ∙ e)
symbols_drop (suc n) (b ∷ bytes) =
    let x = symbol_by (decoded (b ∷ bytes)) in
    let e = symbols_more (b ∷ bytes) x refl in
    let r = symbols_drop n (drop (suc x.extra) (b ∷ bytes)) in
    let w = ap (λ xs. symbols_of (drop (width_of (take (suc n) xs)) (b ∷ bytes))) e in
    ap (drop (suc n)) e ∙ r ∙ ap symbols_of (drop-drop _ (suc x.extra) (b ∷ bytes)) ∙ sym w

-- the same from a place on
pub symbols_from : (bytes : List ℕ) (at to n : ℕ) → to ≡ at + width_of (take n (symbols_of (drop at bytes))) → drop n (symbols_of (drop at bytes)) ≡ symbols_of (drop to bytes)
symbols_from bytes at to n e = symbols_drop n (drop at bytes) ∙ ap symbols_of (drop-drop _ at bytes) ∙ ap (λ m. symbols_of (drop m bytes)) (sym e)

-- the symbols from a place on, where the first is known
pub here : (bytes : List ℕ) (at : ℕ) (class : Class) (width : ℕ) → Some (symbol_of (class, width)) ≡ first_symbol (take (length bytes - at) (drop at bytes)) → 0 < width
    → symbols_of (drop at bytes) ≡ symbol_of (class, width) ∷ symbols_of (drop (at + width) bytes)
here bytes at class width e pos =
    let w : suc (width - 1) ≡ width = omega arith in
    symbols_more (drop at bytes) (symbol_of (class, width)) (sym (first_at bytes at _ e))
    ∙ ap (λ n. symbol_of (class, width) ∷ symbols_of (drop n (drop at bytes))) w ∙ ap (λ l. symbol_of (class, width) ∷ symbols_of l) (drop-drop _ _ bytes)

-- the place behind the first symbol
pub width_is : (at width : ℕ) → 0 < width → at + suc (width - 1) ≡ at + width
width_is at width pos = omega arith

-- there are none at the end
pub none_here : (bytes : List ℕ) (at : ℕ) → None ≡ first_symbol (take (length bytes - at) (drop at bytes)) → symbols_of (drop at bytes) ≡ []
none_here bytes at e = symbols_end (drop at bytes) (no_first (drop at bytes) (first_at bytes at _ e))

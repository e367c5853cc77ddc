-- The loop for the longest token, with a wall up to which no colon comes that makes a name of a prefix.
use Rattle.std.proofs.Common.{◌≡◌, ℕ, suc, ◌+◌, ◌-◌, ◌<◌, List, ◌∷◌, length, take, drop, Bool, true, false, cond, Option, Some, None, refl, sym, subst, ◌∙◌, arith}
use Rattle.terminals.specs.declared.class.Class.{Class}
use Rattle.terminals.specs.Utf8.{Symbol, first_symbol, symbol_of, symbols_of}
use Rattle.terminals.specs.Scan.{scan, IsLost, NoColonBefore}
use Rattle.terminals.proofs.Symbols.{here, width_is}
use Rattle.terminals.proofs.Waits.{lost_back, lost_on, no_colon_back, no_colon_here}
use Rattle.terminals.proofs.Loop.{scan_goes_on}
use Rattle.terminals.proofs.Lexicon.{Lexicon}

module _ {S K T : Type 0} (g : Lexicon S K T) where
  -- the shade finds nothing
  abbrev pub ShadeLost : S → ℕ → List Symbol → Type 0
  ShadeLost s place xs = (a : S) → g.shade s ≡ Some a → IsLost g.stepped g.kind_of a place xs

  -- what is a wall here is one from the first place on
  abbrev pub WallsBack : S → ℕ → List Symbol → ℕ → List Symbol → Type 0
  WallsBack s place xs from ys = (a : S) (no_colon_before : ℕ) → g.shade s ≡ Some a → IsLost g.stepped g.kind_of a place xs → NoColonBefore g.stepped g.kind_of g.dot no_colon_before place xs → NoColonBefore g.stepped g.kind_of g.dot no_colon_before from ys

  -- at the first place
  pub start_lost : (from no_colon_before : ℕ) (xs : List Symbol) → NoColonBefore g.stepped g.kind_of g.dot no_colon_before from xs → from < no_colon_before → ShadeLost g.start from xs
  start_lost from no_colon_before xs nameless lt = λ a e.
      let begins = g.begins in
      let f : g.dot ≡ a = cc in
      let p : from + 0 ≡ from = omega arith in
      subst (λ (s : S). IsLost g.stepped g.kind_of s from xs) f (subst (λ (n : ℕ). IsLost g.stepped g.kind_of g.dot n xs) p (nameless 0 (omega arith)))

  pub start_walls : (from : ℕ) (xs : List Symbol) → WallsBack g.start from xs from xs
  start_walls from xs = λ a no_colon_before e lost nameless. nameless

  shade_on : (s t : S) (place : ℕ) (x : Symbol) (xs : List Symbol) → g.stepped s x.class ≡ Some t → ShadeLost s place (x ∷ xs) → ShadeLost t (place + suc x.extra) xs
  shade_on s t place x xs e lost = λ b f.
      let r = g.back s t b x.class e f in
      lost_on g.stepped g.kind_of r.0 b place x xs r.2 (g.unfinished t b f) (lost r.0 r.1)

  walls_on : (s t : S) (place : ℕ) (x : Symbol) (xs : List Symbol) (from : ℕ) (ys : List Symbol) → g.stepped s x.class ≡ Some t → WallsBack s place (x ∷ xs) from ys → WallsBack t (place + suc x.extra) xs from ys
  walls_on s t place x xs from ys e walls = λ b no_colon_before f lost nameless.
      let r = g.back s t b x.class e f in
      let back = lost_back g.stepped g.kind_of r.0 b place x xs r.2 (g.unfinished t b f) lost in
      walls r.0 no_colon_before r.1 back (no_colon_back g.stepped g.kind_of g.dot no_colon_before place x xs (g.dotted s r.0 place (x ∷ xs) r.1 back) nameless)

  module _ (bytes : List ℕ) (from place width : ℕ) (class : Class) (first : Some (symbol_of (class, width)) ≡ first_symbol (take (length bytes - place) (drop place bytes))) (pos : 0 < width) (s t : S) (step : g.stepped s class ≡ Some t) where
    -- behind a character that the automaton takes
    pub shade_goes_on : ShadeLost s place (symbols_of (drop place bytes)) → ShadeLost t (place + width) (symbols_of (drop (place + width) bytes))
    shade_goes_on lost =
        subst (λ (n : ℕ). ShadeLost t n (symbols_of (drop (place + width) bytes))) (width_is place width pos)
        (shade_on s t place (symbol_of (class, width)) (symbols_of (drop (place + width) bytes)) step (subst (λ (xs : List Symbol). ShadeLost s place xs) (here bytes place class width first pos) lost))

    pub walls_go_on : WallsBack s place (symbols_of (drop place bytes)) from (symbols_of (drop from bytes)) → WallsBack t (place + width) (symbols_of (drop (place + width) bytes)) from (symbols_of (drop from bytes))
    walls_go_on walls =
        subst (λ (n : ℕ). WallsBack t n (symbols_of (drop (place + width) bytes)) from (symbols_of (drop from bytes))) (width_is place width pos)
        (walls_on s t place (symbol_of (class, width)) (symbols_of (drop (place + width) bytes)) from (symbols_of (drop from bytes)) step
        (subst (λ (xs : List Symbol). WallsBack s place xs from (symbols_of (drop from bytes))) (here bytes place class width first pos) walls))

    -- before a wall a waiting state is given up
    pub gives_up : (best total : Option (K × ℕ)) → g.is_waiting t ≡ true → ShadeLost s place (symbols_of (drop place bytes))
        → scan g.stepped g.kind_of s place best (symbols_of (drop place bytes)) ≡ total → best ≡ total
    gives_up best total waits lost h =
        sym (shade_goes_on lost t (g.waits t waits) best)
        ∙ scan_goes_on g.stepped g.kind_of bytes place class width first pos s t None best total step (g.unfinished t t (g.waits t waits)) h

  -- where the automaton stops, its wall is one from the first place on
  pub stops : (s : S) (b : Bool) (place no_colon_before result from : ℕ) (xs ys : List Symbol) → g.is_waiting s ≡ b → result ≡ cond b place no_colon_before → IsLost g.stepped g.kind_of s place xs → WallsBack s place xs from ys
      → NoColonBefore g.stepped g.kind_of g.dot no_colon_before from ys → NoColonBefore g.stepped g.kind_of g.dot result from ys
  stops s true place no_colon_before result from xs ys e r lost walls nameless = subst (λ (w : ℕ). NoColonBefore g.stepped g.kind_of g.dot w from ys) (sym r) (walls s place (g.waits s e) lost (no_colon_here g.stepped g.kind_of g.dot place place xs refl))
  stops s false place no_colon_before result from xs ys e r lost walls nameless = subst (λ (w : ℕ). NoColonBefore g.stepped g.kind_of g.dot w from ys) (sym r) nameless

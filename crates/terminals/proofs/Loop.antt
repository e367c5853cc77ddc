-- One turn of a loop that scans for the longest token, from a place of the bytes on.
use Rattle.std.proofs.Common.{◌≡◌, ℕ, ◌+◌, ◌-◌, ◌<◌, List, length, take, drop, Option, Some, None, sym, ap, subst, ◌∙◌}
use Rattle.terminals.specs.declared.class.Class.{Class}
use Rattle.terminals.specs.Utf8.{Symbol, first_symbol, symbol_of, symbols_of}
use Rattle.terminals.specs.Scan.{scan, better, IsLost}
use Rattle.terminals.proofs.Symbols.{here, width_is, none_here}
use Rattle.terminals.proofs.Waits.{scan_on, scan_end, lost_stuck}

module _ {S K : Type 0} (stepped : S → Class → Option S) (kind_of : S → Option K) (bytes : List ℕ) (at : ℕ) where
  -- at the end of the bytes
  pub scan_over : (s : S) (best total : Option (K × ℕ)) → None ≡ first_symbol (take (length bytes - at) (drop at bytes))
      → scan stepped kind_of s at best (symbols_of (drop at bytes)) ≡ total → best ≡ total
  scan_over s best total e h = sym (ap (scan stepped kind_of s at best) (none_here bytes at e) ∙ scan_end stepped kind_of s at best) ∙ h

  pub lost_over : (s : S) → None ≡ first_symbol (take (length bytes - at) (drop at bytes)) → IsLost stepped kind_of s at (symbols_of (drop at bytes))
  lost_over s e = λ best. ap (scan stepped kind_of s at best) (none_here bytes at e) ∙ scan_end stepped kind_of s at best

  module _ (class : Class) (width : ℕ) (first : Some (symbol_of (class, width)) ≡ first_symbol (take (length bytes - at) (drop at bytes))) (pos : 0 < width) where
    -- a character that the automaton takes
    pub scan_goes_on : (s next : S) (k : Option K) (best total : Option (K × ℕ)) → stepped s class ≡ Some next → kind_of next ≡ k
        → scan stepped kind_of s at best (symbols_of (drop at bytes)) ≡ total → scan stepped kind_of next (at + width) (better k (at + width) best) (symbols_of (drop (at + width) bytes)) ≡ total
    scan_goes_on s next k best total st fin h =
        sym (ap (scan stepped kind_of s at best) (here bytes at class width first pos)
        ∙ scan_on stepped kind_of s next k at best (symbol_of (class, width)) (symbols_of (drop (at + width) bytes)) st fin
        ∙ ap (λ n. scan stepped kind_of next n (better k n best) (symbols_of (drop (at + width) bytes))) (width_is at width pos)) ∙ h

    -- and one that it doesn't take
    pub lost_sticks : (s : S) → stepped s class ≡ None → IsLost stepped kind_of s at (symbols_of (drop at bytes))
    lost_sticks s st = subst (λ (xs : List Symbol). IsLost stepped kind_of s at xs) (sym (here bytes at class width first pos))
        (lost_stuck stepped kind_of s at (symbol_of (class, width)) (symbols_of (drop (at + width) bytes)) st)

    pub scan_sticks : (s : S) (best total : Option (K × ℕ)) → stepped s class ≡ None → scan stepped kind_of s at best (symbols_of (drop at bytes)) ≡ total → best ≡ total
    scan_sticks s best total st h = sym (lost_sticks s st best) ∙ h

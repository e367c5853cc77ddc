-- Walls: where an earlier scan has seen that no token ends.
use Rattle.std.proofs.Common.{◌≡◌, ℕ, zero, suc, ◌+◌, List, [], ◌∷◌, take, drop, Option, Some, None, refl, sym, ap, subst, ◌∙◌, arith}
use Rattle.terminals.specs.declared.class.Class.{Class}
use Rattle.terminals.specs.Utf8.{Symbol, width_of}
use Rattle.terminals.specs.Scan.{on_some, better, scan, IsLost, NoColonBefore}

module _ {S K : Type 0} (stepped : S → Class → Option S) (kind_of : S → Option K) where
  -- the scan over a character
  pub scan_step : (s : S) (o : Option S) (at : ℕ) (best : Option (K × ℕ)) (x : Symbol) (xs : List Symbol) → stepped s x.class ≡ o
      → scan stepped kind_of s at best (x ∷ xs) ≡ on_some o best (λ next. scan stepped kind_of next (at + suc x.extra) (better (kind_of next) (at + suc x.extra) best) xs)
  unfolding scan
  scan_step s o at best x xs e = ap (λ p. on_some p best (λ next. scan stepped kind_of next (at + suc x.extra) (better (kind_of next) (at + suc x.extra) best) xs)) e

  -- the same, where the kind that ends behind it is known
  pub scan_on : (s next : S) (k : Option K) (at : ℕ) (best : Option (K × ℕ)) (x : Symbol) (xs : List Symbol) → stepped s x.class ≡ Some next → kind_of next ≡ k
      → scan stepped kind_of s at best (x ∷ xs) ≡ scan stepped kind_of next (at + suc x.extra) (better k (at + suc x.extra) best) xs
  scan_on s next k at best x xs e f = scan_step s (Some next) at best x xs e ∙ ap (λ j. scan stepped kind_of next (at + suc x.extra) (better j (at + suc x.extra) best) xs) f

  -- the end of the text
  pub scan_end : (s : S) (at : ℕ) (best : Option (K × ℕ)) → scan stepped kind_of s at best [] ≡ best
  unfolding scan
  scan_end s at best = refl

  pub lost_stuck : (s : S) (at : ℕ) (x : Symbol) (xs : List Symbol) → stepped s x.class ≡ None → IsLost stepped kind_of s at (x ∷ xs)
  lost_stuck s at x xs e = λ best. scan_step s None at best x xs e

  -- in front of a lost state
  pub lost_back : (s next : S) (at : ℕ) (x : Symbol) (xs : List Symbol) → stepped s x.class ≡ Some next → kind_of next ≡ None → IsLost stepped kind_of next (at + suc x.extra) xs → IsLost stepped kind_of s at (x ∷ xs)
  lost_back s next at x xs e f lost = λ best. scan_on s next None at best x xs e f ∙ lost best

  -- behind a lost state
  pub lost_on : (s next : S) (at : ℕ) (x : Symbol) (xs : List Symbol) → stepped s x.class ≡ Some next → kind_of next ≡ None → IsLost stepped kind_of s at (x ∷ xs) → IsLost stepped kind_of next (at + suc x.extra) xs
  lost_on s next at x xs e f lost = λ best. sym (scan_on s next None at best x xs e f) ∙ lost best

  -- a wall stays one behind a character
  pub no_colon_on : (s : S) (no_colon_before at : ℕ) (x : Symbol) (xs : List Symbol) → NoColonBefore stepped kind_of s no_colon_before at (x ∷ xs) → NoColonBefore stepped kind_of s no_colon_before (at + suc x.extra) xs
  no_colon_on s no_colon_before at x xs w = λ n lt.
      let e : at + (suc x.extra + width_of (take n xs)) ≡ at + suc x.extra + width_of (take n xs) = omega arith in
      subst (λ (p : ℕ). IsLost stepped kind_of s p (drop n xs)) e (w (suc n) (omega arith))

  -- and behind n of them
  pub no_colon_drop : (n : ℕ) (s : S) (no_colon_before at to : ℕ) (xs : List Symbol) → to ≡ at + width_of (take n xs) → NoColonBefore stepped kind_of s no_colon_before at xs → NoColonBefore stepped kind_of s no_colon_before to (drop n xs)
  no_colon_drop zero s no_colon_before at to xs e w = let f : at ≡ to = omega arith in subst (λ (p : ℕ). NoColonBefore stepped kind_of s no_colon_before p xs) f w
  no_colon_drop (suc n) s no_colon_before at to [] e w = let f : at ≡ to = omega arith in subst (λ (p : ℕ). NoColonBefore stepped kind_of s no_colon_before p []) f w
  no_colon_drop (suc n) s no_colon_before at to (x ∷ xs) e w = no_colon_drop n s no_colon_before (at + suc x.extra) to xs (omega arith) (no_colon_on s no_colon_before at x xs w)

  -- in front of a wall
  pub no_colon_back : (s : S) (no_colon_before at : ℕ) (x : Symbol) (xs : List Symbol) → IsLost stepped kind_of s at (x ∷ xs) → NoColonBefore stepped kind_of s no_colon_before (at + suc x.extra) xs → NoColonBefore stepped kind_of s no_colon_before at (x ∷ xs)
  no_colon_back s no_colon_before at x xs lost w zero lt = let e : at ≡ at + 0 = omega arith in subst (λ (p : ℕ). IsLost stepped kind_of s p (x ∷ xs)) e lost
  no_colon_back s no_colon_before at x xs lost w (suc n) lt =
      let e : at + suc x.extra + width_of (take n xs) ≡ at + (suc x.extra + width_of (take n xs)) = omega arith in
      subst (λ (p : ℕ). IsLost stepped kind_of s p (drop n xs)) e (w n (omega arith))

  -- no place lies before a wall that is behind one
  pub no_colon_here : (s : S) (no_colon_before at : ℕ) (xs : List Symbol) → no_colon_before ≡ at → NoColonBefore stepped kind_of s no_colon_before at xs
  no_colon_here s no_colon_before at xs e = λ n lt. absurd (omega arith)

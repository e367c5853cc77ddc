-- What an automaton finds is the longest token, where its states decide the rules.
use Rattle.std.proofs.Common.{◌≡◌, ℕ, zero, suc, ◌+◌, ◌<◌, ◌≤◌, List, [], ◌∷◌, length, take, Bool, true, false, Option, Some, None, refl, sym, ap, subst, ◌∙◌, arith}
use Rattle.terminals.specs.declared.class.Class.{Class}
use Rattle.terminals.specs.Utf8.{Symbol, classes_of, width_of}
use Rattle.terminals.specs.Rules.{Rule, allows}
use Rattle.terminals.specs.Tokens.{IsLongest, HasNone}
use Rattle.terminals.specs.Scan.{on_some, better, scan}

module _ {S K : Type 0} (stepped : S → Class → Option S) (kind_of : S → Option K) where
  -- the state behind one more character
  abbrev pub stepped_on : Option S → Class → Option S
  stepped_on None x = None
  stepped_on (Some s) x = stepped s x

  -- the state behind a text
  abbrev pub run : Option S → List Class → Option S
  run s [] = s
  run s (x ∷ xs) = run (stepped_on s x) xs

  -- the kind that ends in a state
  abbrev pub kind_in : Option S → Option K
  kind_in None = None
  kind_in (Some s) = kind_of s

  -- the kind that the first m characters end in
  abbrev pub ends : Option S → List Symbol → ℕ → Option K
  ends s xs m = kind_in (run s (classes_of (take m xs)))

  -- nothing goes on behind nothing
  pub run_none : (xs : List Class) → run None xs ≡ None
  run_none [] = refl
  run_none (x ∷ xs) = run_none xs

  -- nothing was found and the best stays; or n characters end in k, and no more of them end in anything
  data Found (s : S) (place : ℕ) (best : Option (K × ℕ)) (xs : List Symbol) (result : Option (K × ℕ)) : Type 0 where
    kept : ((m : ℕ) → 0 < m → m ≤ length xs → ends (Some s) xs m ≡ None) → result ≡ best → Found s place best xs result
    found : (k : K) (n : ℕ) → 0 < n → n ≤ length xs → ends (Some s) xs n ≡ Some k → ((m : ℕ) → n < m → m ≤ length xs → ends (Some s) xs m ≡ None) → result ≡ Some (k, place + width_of (take n xs)) → Found s place best xs result

  -- one more character in front
  later : (s next : S) (x : Symbol) (xs : List Symbol) (m : ℕ) → stepped s x.class ≡ Some next → ends (Some s) (x ∷ xs) (suc m) ≡ ends (Some next) xs m
  later s next x xs m e = ap (λ o. kind_in (run o (classes_of (take m xs)))) e

  found_more : (s next : S) (place : ℕ) (best : Option (K × ℕ)) (x : Symbol) (xs : List Symbol) (result : Option (K × ℕ)) → stepped s x.class ≡ Some next → (f : Option K) → kind_of next ≡ f
      → Found next (place + suc x.extra) (better f (place + suc x.extra) best) xs result → Found s place best (x ∷ xs) result
  found_more s next place best x xs result e None fin (kept none r) =
      kept (λ m pos le. elim m as (λ m. 0 < m → m ≤ suc (length xs) → ends (Some s) (x ∷ xs) m ≡ None) [
        | zero ↦ λ pos le. absurd (omega arith)
        | suc m ↦ λ pos le. elim m as (λ m. suc m ≤ suc (length xs) → ends (Some s) (x ∷ xs) (suc m) ≡ None) [
          | zero ↦ λ le. later s next x xs 0 e ∙ fin
          | suc m ↦ λ le. later s next x xs (suc m) e ∙ none (suc m) (omega arith) (omega arith)
        ] le
      ] pos le) r
  found_more s next place best x xs result e (Some k) fin (kept none r) =
      let w : place + suc x.extra ≡ place + (suc x.extra + 0) = omega arith in
      found k 1 (omega arith) (omega arith) (later s next x xs 0 e ∙ fin)
      (λ m lt le. elim m as (λ m. 1 < m → m ≤ suc (length xs) → ends (Some s) (x ∷ xs) m ≡ None) [
        | zero ↦ λ lt le. absurd (omega arith)
        | suc m ↦ λ lt le. later s next x xs m e ∙ none m (omega arith) (omega arith)
      ] lt le) (r ∙ ap (λ n. Some (k, n)) w)
  found_more s next place best x xs result e f fin (found k n pos within end most r) =
      let w : place + suc x.extra + width_of (take n xs) ≡ place + (suc x.extra + width_of (take n xs)) = omega arith in
      found k (suc n) (omega arith) (omega arith) (later s next x xs n e ∙ end)
      (λ m lt le. elim m as (λ m. suc n < m → m ≤ suc (length xs) → ends (Some s) (x ∷ xs) m ≡ None) [
        | zero ↦ λ lt le. absurd (omega arith)
        | suc m ↦ λ lt le. later s next x xs m e ∙ most m (omega arith) (omega arith)
      ] lt le) (r ∙ ap (λ n. Some (k, n)) w)

  found_step : (s : S) (place : ℕ) (best : Option (K × ℕ)) (x : Symbol) (xs : List Symbol) → ((next : S) (place : ℕ) (best : Option (K × ℕ)) → Found next place best xs (scan stepped kind_of next place best xs))
      → (o : Option S) → stepped s x.class ≡ o → Found s place best (x ∷ xs) (on_some o best (λ next. scan stepped kind_of next (place + suc x.extra) (better (kind_of next) (place + suc x.extra) best) xs))
  found_step s place best x xs below None e =
      kept (λ m pos le. elim m as (λ m. 0 < m → ends (Some s) (x ∷ xs) m ≡ None) [
        | zero ↦ λ pos. absurd (omega arith)
        | suc m ↦ λ pos. ap (λ o. kind_in (run o (classes_of (take m xs)))) e ∙ ap kind_in (run_none (classes_of (take m xs)))
      ] pos) refl
  found_step s place best x xs below (Some next) e =
      found_more s next place best x xs _ e (kind_of next) refl (below next (place + suc x.extra) (better (kind_of next) (place + suc x.extra) best))

  scan_found : (xs : List Symbol) (s : S) (place : ℕ) (best : Option (K × ℕ)) → Found s place best xs (scan stepped kind_of s place best xs)
  unfolding scan
  scan_found [] s place best = kept (λ m pos le. absurd (omega arith)) refl
  scan_found (x ∷ xs) s place best = found_step s place best x xs (λ next place best. scan_found xs next place best) (stepped s x.class) refl

  -- The automaton decides the rules: a text ends in a kind exactly where that kind's rule allows it.
  pub record Decides (rule_of : K → Rule) (start : S) : Type 0 where
    pub allowed : (xs : List Class) (k : K) → kind_in (run (Some start) xs) ≡ Some k → allows (rule_of k) xs ≡ true
    pub only : (xs : List Class) (k : K) → allows (rule_of k) xs ≡ true → kind_in (run (Some start) xs) ≡ Some k

  -- what was found at a place, and where it ends
  abbrev pub IsFound : (K → Rule) → ℕ → List Symbol → Option (K × ℕ) → Type 0
  IsFound rule_of from xs None = HasNone rule_of xs
  IsFound rule_of from xs (Some x) = (n : ℕ) × IsLongest rule_of xs x.0 n × (x.1 ≡ from + width_of (take n xs)) × (0 < n)

  module _ (rule_of : K → Rule) (start : S) (decides : Decides rule_of start) (empty : kind_of start ≡ None) where
    refused_by : (b : Bool) (xs : List Class) (k : K) → allows (rule_of k) xs ≡ b → kind_in (run (Some start) xs) ≡ None → b ≡ false
    refused_by false xs k e none = refl
    refused_by true xs k e none = absurd (let some = decides.only xs k e in cc)

    refused : (xs : List Class) (k : K) → kind_in (run (Some start) xs) ≡ None → allows (rule_of k) xs ≡ false
    refused xs k none = refused_by (allows (rule_of k) xs) xs k refl none

    nothing : (xs : List Symbol) (k : K) (m : ℕ) → ((m : ℕ) → 0 < m → m ≤ length xs → ends (Some start) xs m ≡ None) → m ≤ length xs → allows (rule_of k) (classes_of (take m xs)) ≡ false
    nothing xs k zero h le = refused [] k empty
    nothing xs k (suc m) h le = refused (classes_of (take (suc m) xs)) k (h (suc m) (omega arith) le)

    found_is : (place : ℕ) (xs : List Symbol) (result : Option (K × ℕ)) → Found start place None xs result → IsFound rule_of place xs result
    found_is place xs None (kept none r) = λ j m le. nothing xs j m none le
    found_is place xs (Some x) (kept none r) = absurd cc
    found_is place xs None (found k n pos within end most r) = absurd cc
    found_is place xs (Some x) (found k n pos within end most r) =
        let same : x ≡ (k, place + width_of (take n xs)) = cc in
        subst (λ (y : K × ℕ). IsFound rule_of place xs (Some y)) (sym same) (
          n,
          record {
            within = within;
            allowed = decides.allowed (classes_of (take n xs)) k end;
            longest = λ j m lt le. refused (classes_of (take m xs)) j (most m lt le);
          },
          refl,
          pos,
        )

    -- the scan finds the longest token
    pub scan_longest : (place : ℕ) (xs : List Symbol) → IsFound rule_of place xs (scan stepped kind_of start place None xs)
    scan_longest place xs = found_is place xs _ (scan_found xs start place None)

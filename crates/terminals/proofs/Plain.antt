-- The text of a token is UTF-8, as the standard library has it.
use Rattle.std.proofs.Common.{◌≡◌, ℕ, zero, suc, ◌<◌, List, [], ◌∷◌, length, take, drop, arith, Option, Some, None, refl, sym, ap, subst, ◌∙◌}
use Rattle.std.specs.Str.{IsUtf8}
use Rattle.std.proofs.lemmas.Str.{IsUtf8-nil, IsUtf8-encode, IsUtf8-append}
use Rattle.std.proofs.Math.Seq.{take-add}
use Rattle.terminals.specs.declared.class.Class.{Class}
use Rattle.terminals.specs.declared.class.Class.TheVariants as classes
use Rattle.terminals.specs.Utf8.{Symbol, symbol_by, decoded, symbols_of, classes_of, width_of}
use Rattle.terminals.proofs.Symbols.{first_of, symbols_end, symbols_more}
use Rattle.terminals.proofs.Longest.{run, run_none}
use Rattle.terminals.proofs.Spelling.{spelled}

module _ {S K : Type 0} (stepped : S → Class → Option S) (kind_of : S → Option K) (ill : (s : S) → stepped s classes.Ill ≡ None) where
  -- what the first n symbols of the bytes take is UTF-8, where the automaton takes them
  abbrev IsPlain : ℕ → List ℕ → Type 0
  IsPlain n bytes = IsUtf8 (take (width_of (take n (symbols_of bytes))) bytes)

  -- behind the first symbol
  behind : (n : ℕ) (bytes : List ℕ) (o : Option S) (t : S) → ((s : S) → run stepped kind_of (Some s) (classes_of (take n (symbols_of bytes))) ≡ Some t → IsPlain n bytes) → run stepped kind_of o (classes_of (take n (symbols_of bytes))) ≡ Some t → IsPlain n bytes
  behind n bytes None t below e = absurd (let p = run_none stepped kind_of (classes_of (take n (symbols_of bytes))) in cc)
  behind n bytes (Some s) t below e = below s e

  step : (n : ℕ) (bytes : List ℕ) (s t : S) → 0 < length bytes → ((bytes : List ℕ) (s : S) → run stepped kind_of (Some s) (classes_of (take n (symbols_of bytes))) ≡ Some t → IsPlain n bytes)
      → (o : Option (ℕ × ℕ)) → decoded bytes ≡ o → run stepped kind_of (Some s) (classes_of (take (suc n) (symbols_of bytes))) ≡ Some t → IsPlain (suc n) bytes
  step n bytes s t pos below None f e =
      let m = symbols_more bytes (symbol_by None) (first_of bytes pos ∙ ap (λ o. Some (symbol_by o)) f) in
      let r : run stepped kind_of (stepped s classes.Ill) (classes_of (take n (symbols_of (drop 1 bytes)))) ≡ Some t = sym (ap (λ (xs : List Symbol). run stepped kind_of (Some s) (classes_of (take (suc n) xs))) m) ∙ e in
      let q : run stepped kind_of None (classes_of (take n (symbols_of (drop 1 bytes)))) ≡ Some t = sym (ap (λ o. run stepped kind_of o (classes_of (take n (symbols_of (drop 1 bytes))))) (ill s)) ∙ r in
      absurd (let p = run_none stepped kind_of (classes_of (take n (symbols_of (drop 1 bytes)))) in cc)
  step n bytes s t pos below (Some v) f e =
      let m = symbols_more bytes (symbol_by (Some v)) (first_of bytes pos ∙ ap (λ o. Some (symbol_by o)) f) in
      let rest : List ℕ = drop (suc v.1) bytes in
      let r : run stepped kind_of (stepped s (symbol_by (Some v)).class) (classes_of (take n (symbols_of rest))) ≡ Some t = sym (ap (λ (xs : List Symbol). run stepped kind_of (Some s) (classes_of (take (suc n) xs))) m) ∙ e in
      let is = spelled bytes v f in
      let front : IsUtf8 (take (suc v.1) bytes) = subst IsUtf8 is.1.0 (IsUtf8-encode v.0 is.1.1) in
      let back : IsPlain n rest = behind n rest (stepped s (symbol_by (Some v)).class) t (below rest) r in
      subst (λ (xs : List Symbol). IsUtf8 (take (width_of (take (suc n) xs)) bytes)) (sym m)
      (subst IsUtf8 (sym (take-add (suc v.1) (width_of (take n (symbols_of rest))) bytes)) (IsUtf8-append _ _ front back))

  pub plain : (n : ℕ) (bytes : List ℕ) (s t : S) → run stepped kind_of (Some s) (classes_of (take n (symbols_of bytes))) ≡ Some t → IsPlain n bytes
  plain zero bytes s t e = IsUtf8-nil
  plain (suc n) [] s t e = let f = symbols_end [] refl in subst (λ (xs : List Symbol). IsUtf8 (take (width_of (take (suc n) xs)) [])) (sym f) IsUtf8-nil
  plain (suc n) (b ∷ bytes) s t e = step n (b ∷ bytes) s t (omega arith) (λ bytes s r. plain n bytes s t r) (decoded (b ∷ bytes)) refl e

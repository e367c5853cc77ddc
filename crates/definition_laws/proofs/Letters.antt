-- The bytes of a token are those of characters that its rule allows.
use Rattle.std.proofs.Common.{◌≡◌, ℕ, zero, suc, ◌+◌, ◌-◌, List, [], ◌∷◌, ◌++◌, take, drop, map, slice_range, Option, Some, None, Bool, true, false, refl, sym, ap, subst, ◌∙◌, inl, inr, arith, append_assoc}
use Rattle.std.proofs.Math.Seq.{take-add}
use Rattle.std.proofs.Math.Utf8.{encode, scalar}
use Rattle.rdf_terms.specs.Lists.{IsIn}
use Rattle.terminals.specs.declared.class.Class.{Class}
use Rattle.terminals.specs.declared.class.Class.TheVariants as classes
use Rattle.terminals.specs.Class.{classified}
use Rattle.terminals.specs.Utf8.{Symbol, symbol_by, decoded, symbols_of, class_at, classes_of, width_of}
use Rattle.terminals.specs.Rules.{Rule, allows}
use Rattle.terminals.specs.Tokens.{Lexes, IsLongest, lexes_end, lexes_white, lexes_hash, lexes_comment, lexes_ill, lexes_token, lexes_bad}
use Rattle.terminals.proofs.Symbols.{symbols_end, symbols_more, symbols_from}
use Rattle.terminals.proofs.Spelling.{spelled}
use Rattle.definition_laws.proofs.Matching.{Matches, matches, lacks, Clean, clean}

-- a character
pub record Letter : Type 0 where
  pub code : ℕ
  pub fine : scalar code ≡ true

abbrev pub class_of : Letter → Class
class_of x = classified x.code

-- the bytes of characters
abbrev pub bytes_of : List Letter → List ℕ
bytes_of [] = []
bytes_of (x ∷ xs) = encode x.code ++ bytes_of xs

pub bytes_append : (xs ys : List Letter) → bytes_of (xs ++ ys) ≡ bytes_of xs ++ bytes_of ys
bytes_append [] ys = refl
bytes_append (x ∷ xs) ys = ap (λ l. encode x.code ++ l) (bytes_append xs ys) ∙ sym (append_assoc (encode x.code) (bytes_of xs) (bytes_of ys))

-- ---- symbols that are not ill-formed are characters

abbrev Reads : List Symbol → List ℕ → Type 0
Reads xs bytes = (ls : List Letter) × (take (width_of xs) bytes ≡ bytes_of ls) × (classes_of xs ≡ map class_of ls)

abbrev first_symbols : ℕ → List ℕ → List Symbol
first_symbols n bytes = take n (symbols_of bytes)

read_more : (n : ℕ) (bytes : List ℕ) → (o : Option (ℕ × ℕ)) → decoded bytes ≡ o → symbols_of bytes ≡ symbol_by o ∷ symbols_of (drop (suc (symbol_by o).extra) bytes)
    → ((rest : List ℕ) → Clean class_at classes.Ill (first_symbols n rest) → Reads (first_symbols n rest) rest) → Clean class_at classes.Ill (symbol_by o ∷ first_symbols n (drop (suc (symbol_by o).extra) bytes)) → Reads (first_symbols (suc n) bytes) bytes
read_more n bytes None f e below h = absurd (h.0 refl)
read_more n bytes (Some v) f e below h =
    let rest : List ℕ = drop (suc v.1) bytes in
    let is = spelled bytes v f in
    let r = below rest h.1 in
    let x : Letter = record { code = v.0; fine = is.1.1 } in
    let front : take (suc v.1 + width_of (first_symbols n rest)) bytes ≡ encode v.0 ++ bytes_of r.0 =
    take-add (suc v.1) (width_of (first_symbols n rest)) bytes ∙ ap (λ l. l ++ take (width_of (first_symbols n rest)) rest) (sym is.1.0) ∙ ap (λ l. encode v.0 ++ l) r.1 in
    subst (λ (xs : List Symbol). Reads (take (suc n) xs) bytes) (sym e) (x ∷ r.0, front, ap (λ l. classified v.0 ∷ l) r.2)

read : (n : ℕ) (bytes : List ℕ) → Clean class_at classes.Ill (first_symbols n bytes) → Reads (first_symbols n bytes) bytes
read zero bytes h = ([], refl, refl)
read (suc n) [] h = subst (λ (xs : List Symbol). Reads (take (suc n) xs) []) (sym (symbols_end [] refl)) ([], refl, refl)
read (suc n) (b ∷ bytes) h =
    let all : List ℕ = b ∷ bytes in
    let e = symbols_more all (symbol_by (decoded all)) refl in
    read_more n all (decoded all) refl e (λ rest k. read n rest k) (subst (λ (xs : List Symbol). Clean class_at classes.Ill (take (suc n) xs)) e h)

-- ---- each token

module _ {K T : Type 0} (rule_of : K → Rule) (token : K → ℕ → ℕ → T) (bad last : K) (bytes : List ℕ) (P : T → Type 0)
    (clean_rule : (k : K) → lacks classes.Ill (rule_of k) ≡ true)
    (fits : (k : K) (from to : ℕ) (ls : List Letter) → slice_range bytes from to ≡ bytes_of ls → Matches class_of (rule_of k) ls → P (token k from to))
    (fits_bad : (at : ℕ) → P (token bad at at)) (fits_last : (at : ℕ) → P (token last at at)) where
  one_token : (k : K) (n at to : ℕ) → IsLongest rule_of (symbols_of (drop at bytes)) k n → to ≡ at + width_of (first_symbols n (drop at bytes)) → P (token k at to)
  one_token k n at to longest is =
      let xs : List Symbol = first_symbols n (drop at bytes) in
      let r = read n (drop at bytes) (clean class_at classes.Ill (rule_of k) xs (clean_rule k) (matches class_at (rule_of k) xs longest.allowed)) in
      let width : to - at ≡ width_of xs = omega arith in
      fits k at to r.0 (ap (λ (w : ℕ). take w (drop at bytes)) width ∙ r.1) (matches class_of (rule_of k) r.0 (ap (λ l. allows (rule_of k) l) (sym r.2) ∙ longest.allowed))

  behind : (at : ℕ) (x : Symbol) (xs : List Symbol) → x ∷ xs ≡ symbols_of (drop at bytes) → xs ≡ symbols_of (drop (at + suc x.extra) bytes)
  behind at x xs e =
      let n : at + suc x.extra ≡ at + width_of (take 1 (symbols_of (drop at bytes))) = omega (arith, ap (λ (l : List Symbol). width_of (take 1 l)) e) in
      ap (drop 1) e ∙ symbols_from bytes at (at + suc x.extra) 1 n

  -- what holds of each token that stands for characters, and of the last one, holds of each
  pub each_token : (c : Bool) (at : ℕ) (xs : List Symbol) (ts : List T) → xs ≡ symbols_of (drop at bytes) → Lexes rule_of token bad last c at xs ts → (t : T) → IsIn ts t → P t
  each_token c at [] _ e lexes_end t h = elim h [ inl is ↦ subst P is (fits_last at) | inr out ↦ absurd out ]
  each_token false at (x ∷ xs) _ e (lexes_white {ts} is r) t h = each_token false _ xs ts (behind at x xs e) r t h
  each_token false at (x ∷ xs) _ e (lexes_hash {ts} is r) t h = each_token true _ xs ts (behind at x xs e) r t h
  each_token true at (x ∷ xs) _ e (lexes_comment {ts} is r) t h = each_token _ _ xs ts (behind at x xs e) r t h
  each_token true at (x ∷ xs) _ e (lexes_ill is) t h = elim h [ inl is ↦ subst P is (fits_bad at) | inr out ↦ absurd out ]
  each_token false at (x ∷ xs) _ e (lexes_token {to} {k} {n} {ts} no_white no_hash longest is r) t h =
      let here : to ≡ at + width_of (first_symbols n (drop at bytes)) = is ∙ ap (λ (l : List Symbol). at + width_of (take n l)) e in
      let long : IsLongest rule_of (symbols_of (drop at bytes)) k n = subst (λ (l : List Symbol). IsLongest rule_of l k n) e longest in
      elim h [
        | inl same ↦ subst P same (one_token k n at to long here)
        | inr more ↦ each_token false to (drop n (x ∷ xs)) ts (ap (drop n) e ∙ symbols_from bytes at to n here) r t more
      ]
  each_token false at (x ∷ xs) _ e (lexes_bad no_white no_hash none) t h = elim h [ inl is ↦ subst P is (fits_bad at) | inr out ↦ absurd out ]

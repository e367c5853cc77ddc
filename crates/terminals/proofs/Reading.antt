-- Tokens one after the other, from a place of the bytes on.
use Rattle.std.proofs.Common.{◌≡◌, ℕ, zero, suc, ◌+◌, ◌<◌, ◌≤◌, List, [], ◌∷◌, ◌++◌, take, drop, get_or, ◌-◌, refl, true, false, Option, Some, None, sym, ap, subst, ◌∙◌, append_assoc, arith}
use Rattle.std.specs.Prelude.{All, slice_range}
use Rattle.std.specs.Str.{IsUtf8}
use Rattle.std.proofs.lemmas.List.Elements.{All-append}
use Rattle.terminals.specs.declared.class.Class.{Class}
use Rattle.terminals.specs.declared.gap.Gap.{Gap}
use Rattle.terminals.specs.declared.gap.Gap.TheVariants as gaps
use Rattle.terminals.specs.Utf8.{Symbol, classes_of, symbols_of, width_of}
use Rattle.terminals.specs.Rules.{allows}
use Rattle.terminals.specs.Gap.{gap_of}
use Rattle.terminals.specs.Tokens.{IsLongest, HasNone, Lexes, lexes_token, lexes_bad}
use Rattle.terminals.specs.Scan.{scan, NoColonBefore}
use Rattle.terminals.proofs.Symbols.{symbols_from}
use Rattle.terminals.proofs.Longest.{run, kind_in, IsFound, scan_longest}
use Rattle.terminals.proofs.Plain.{plain}
use Rattle.terminals.proofs.Gaps.{IsText, is_text, Ends, gap_ends}
use Rattle.terminals.proofs.Waits.{no_colon_drop}
use Rattle.terminals.proofs.Lexicon.{Lexicon}

module _ {S K T : Type 0} (g : Lexicon S K T) where
  -- the characters from a place on are these tokens
  abbrev pub Reads : ℕ → List Symbol → List T → Type 0
  Reads place xs ts = Lexes g.rule_of g.token g.bad g.last false place xs ts

  -- what the scan finds from a place on
  abbrev pub scanned : ℕ → List Symbol → Option (K × ℕ)
  scanned place xs = scan g.stepped g.kind_of g.start place None xs

  -- it is the longest token
  found : (place : ℕ) (xs : List Symbol) (o : Option (K × ℕ)) → o ≡ scanned place xs → IsFound g.stepped g.kind_of g.rule_of place xs o
  found place xs o e = subst (λ (o : Option (K × ℕ)). IsFound g.stepped g.kind_of g.rule_of place xs o) (sym e) (scan_longest g.stepped g.kind_of g.rule_of g.start g.decides g.empty place xs)

  kind_some : (o : Option S) (k : K) → kind_in g.stepped g.kind_of o ≡ Some k → (t : S) × (o ≡ Some t)
  kind_some None k e = absurd cc
  kind_some (Some t) k e = (t, refl)

  token_at : (place to n : ℕ) (k : K) (xs : List Symbol) (ts : List T) → IsText xs → IsLongest g.rule_of xs k n → to ≡ place + width_of (take n xs) → Reads to (drop n xs) ts → Reads place xs (g.token k place to ∷ ts)
  token_at place to n k _ ts (is_text white hash) long end r = lexes_token white hash long end r

  none_at : (place : ℕ) (xs : List Symbol) → IsText xs → HasNone g.rule_of xs → Reads place xs (g.token g.bad place place ∷ [])
  none_at place _ (is_text white hash) none = lexes_bad white hash none

  module _ (bytes : List ℕ) (from : ℕ) where
    ends : (o : Gap) → o ≡ gap_of false from (symbols_of (drop from bytes)) → Ends g.rule_of g.token g.bad g.last false from (symbols_of (drop from bytes)) o
    ends o e = subst (λ (o : Gap). Ends g.rule_of g.token g.bad g.last false from (symbols_of (drop from bytes)) o) (sym e) (gap_ends g.rule_of g.token g.bad g.last (symbols_of (drop from bytes)) false from)

    -- the text's end behind a gap
    pub read_end : (place : ℕ) → gaps.End place ≡ gap_of false from (symbols_of (drop from bytes)) → Reads from (symbols_of (drop from bytes)) (g.token g.last place place ∷ [])
    read_end place e = ends (gaps.End place) e

    -- an ill-formed byte in a comment
    pub read_ill : (place : ℕ) → gaps.Ill place ≡ gap_of false from (symbols_of (drop from bytes)) → Reads from (symbols_of (drop from bytes)) (g.token g.bad place place ∷ [])
    read_ill place e = ends (gaps.Ill place) e

    module _ (place : ℕ) (gap : gaps.Token place ≡ gap_of false from (symbols_of (drop from bytes))) where
      pub later : from ≤ place
      later = let e = ends (gaps.Token place) gap in omega (arith, e.1)

      behind : drop (ends (gaps.Token place) gap).0 (symbols_of (drop from bytes)) ≡ symbols_of (drop place bytes)
      behind = let e = ends (gaps.Token place) gap in symbols_from bytes from place e.0 e.1

      text : IsText (symbols_of (drop place bytes))
      text = subst IsText behind (ends (gaps.Token place) gap).2

      go : (ts : List T) → Reads place (symbols_of (drop place bytes)) ts → Reads from (symbols_of (drop from bytes)) ts
      go ts r = (ends (gaps.Token place) gap).3 ts (subst (λ (xs : List Symbol). Reads place xs ts) (sym behind) r)

      -- a gap keeps `no_colon_before`
      pub nameless_at : (no_colon_before : ℕ) → NoColonBefore g.stepped g.kind_of g.dot no_colon_before from (symbols_of (drop from bytes)) → NoColonBefore g.stepped g.kind_of g.dot no_colon_before place (symbols_of (drop place bytes))
      nameless_at no_colon_before w = let e = ends (gaps.Token place) gap in
          subst (λ (xs : List Symbol). NoColonBefore g.stepped g.kind_of g.dot no_colon_before place xs) behind (no_colon_drop g.stepped g.kind_of e.0 g.dot no_colon_before from place (symbols_of (drop from bytes)) e.1 w)

      -- no token behind the gap
      pub read_none : None ≡ scanned place (symbols_of (drop place bytes)) → Reads from (symbols_of (drop from bytes)) (g.token g.bad place place ∷ [])
      read_none e = go _ (none_at place (symbols_of (drop place bytes)) text (found place (symbols_of (drop place bytes)) None e))

      module _ (k : K) (to : ℕ) (is : Some (k, to) ≡ scanned place (symbols_of (drop place bytes))) where
        -- a token behind the gap, and those behind it
        pub read_token : (ts : List T) → Reads to (symbols_of (drop to bytes)) ts → Reads from (symbols_of (drop from bytes)) (g.token k place to ∷ ts)
        read_token ts r =
            let f = found place (symbols_of (drop place bytes)) (Some (k, to)) is in
            go _ (token_at place to f.0 k (symbols_of (drop place bytes)) ts text f.1 f.2 (subst (λ (xs : List Symbol). Reads to xs ts) (sym (symbols_from bytes place to f.0 f.2)) r))

        -- its text is UTF-8
        pub plain_token : IsUtf8 (slice_range bytes place to)
        plain_token =
            let f = found place (symbols_of (drop place bytes)) (Some (k, to)) is in
            let ends_in = g.decides.only (classes_of (take f.0 (symbols_of (drop place bytes)))) k f.1.allowed in
            let t = kind_some (run g.stepped g.kind_of (Some g.start) (classes_of (take f.0 (symbols_of (drop place bytes))))) k ends_in in
            let w : to - place ≡ width_of (take f.0 (symbols_of (drop place bytes))) = omega (arith, f.2) in
            subst (λ (n : ℕ). IsUtf8 (take n (drop place bytes))) (sym w) (plain g.stepped g.kind_of g.ill f.0 (drop place bytes) g.start t.0 t.1)

        -- what follows where its rule allows a text
        pub as_allowed : {A : Type 0} → ((xs : List Class) → allows (g.rule_of k) xs ≡ true → A) → A
        as_allowed go_on = let f = found place (symbols_of (drop place bytes)) (Some (k, to)) is in go_on (classes_of (take f.0 (symbols_of (drop place bytes)))) f.1.allowed

        -- and it keeps `no_colon_before`
        pub nameless_to : (no_colon_before : ℕ) → NoColonBefore g.stepped g.kind_of g.dot no_colon_before place (symbols_of (drop place bytes)) → NoColonBefore g.stepped g.kind_of g.dot no_colon_before to (symbols_of (drop to bytes))
        nameless_to no_colon_before w =
            let f = found place (symbols_of (drop place bytes)) (Some (k, to)) is in
            subst (λ (xs : List Symbol). NoColonBefore g.stepped g.kind_of g.dot no_colon_before to xs) (symbols_from bytes place to f.0 f.2) (no_colon_drop g.stepped g.kind_of f.0 g.dot no_colon_before place to (symbols_of (drop place bytes)) f.2 w)

-- ---- lists that grow

one : {T : Type 0} (P : T → Type 0) (t : T) → P t → All P (t ∷ [])
one P t p = λ k d lt. elim k as (λ k. k < 1 → P (get_or (t ∷ []) k d)) [ zero ↦ λ lt. p | suc k ↦ λ lt. absurd (omega arith) ] lt

-- what holds of all tokens and of one more
pub all_more : {T : Type 0} (P : T → Type 0) (ts new : List T) (t : T) → new ≡ ts ++ t ∷ [] → All P ts → P t → All P new
all_more P ts new t e all p = subst (All P) (sym e) (All-append P ts (t ∷ []) all (one P t p))

-- one more token in front of those that follow
pub list_more : {T : Type 0} (Q : List T → Type 0) (tokens new ts : List T) (t : T) → new ≡ tokens ++ t ∷ [] → Q (tokens ++ t ∷ ts) → Q (new ++ ts)
list_more {T} Q tokens new ts t e r = subst Q (sym (ap (λ (l : List T). l ++ ts) e ∙ append_assoc tokens (t ∷ []) ts)) r

-- Every text has a list of tokens, where an automaton decides the rules.
use Rattle.std.proofs.Common.{◌≡◌, ℕ, zero, suc, ◌+◌, ◌<◌, ◌≤◌, ◌-◌, List, [], ◌∷◌, length, take, drop, Bool, true, false, not, refl, Option, Some, None, arith}
use Rattle.std.proofs.lemmas.List.{length-drop}
use Rattle.terminals.specs.Utf8.{Symbol, width_of}
use Rattle.terminals.specs.Groups.{is_white, is_hash, is_line_end, is_ill}
use Rattle.terminals.specs.Tokens.{Lexes, lexes_end, lexes_white, lexes_hash, lexes_comment, lexes_ill, lexes_token, lexes_bad}
use Rattle.terminals.specs.Scan.{scan}
use Rattle.terminals.proofs.Longest.{IsFound, scan_longest}
use Rattle.terminals.proofs.Lexicon.{Lexicon}

module _ {S K T : Type 0} (g : Lexicon S K T) where
  -- a list of tokens of the characters from a place on
  abbrev HasList : Bool → ℕ → List Symbol → Type 0
  HasList comment place xs = (ts : List T) × Lexes g.rule_of g.token g.bad g.last comment place xs ts

  module _ (fuel : ℕ) (below : (comment : Bool) (place : ℕ) (xs : List Symbol) → length xs ≤ fuel → HasList comment place xs) where
    in_comment : (place : ℕ) (x : Symbol) (xs : List Symbol) → length xs ≤ fuel → (b : Bool) → is_ill x.class ≡ b → HasList true place (x ∷ xs)
    in_comment place x xs le true e = (_, lexes_ill e)
    in_comment place x xs le false e = let r = below (not (is_line_end x.class)) (place + suc x.extra) xs le in (r.0, lexes_comment e r.1)

    at_text : (place : ℕ) (x : Symbol) (xs : List Symbol) → length xs ≤ fuel → is_white x.class ≡ false → is_hash x.class ≡ false
        → (o : Option (K × ℕ)) → IsFound g.stepped g.kind_of g.rule_of place (x ∷ xs) o → HasList false place (x ∷ xs)
    at_text place x xs le white hash None f = (_, lexes_bad white hash f)
    at_text place x xs le white hash (Some (k, to)) f =
        let r = below false to (drop f.0 (x ∷ xs)) (omega (arith, length-drop f.0 (x ∷ xs), f.3, le)) in
        (_, lexes_token white hash f.1 f.2 r.1)

    hash_by : (place : ℕ) (x : Symbol) (xs : List Symbol) → length xs ≤ fuel → is_white x.class ≡ false → (b : Bool) → is_hash x.class ≡ b → HasList false place (x ∷ xs)
    hash_by place x xs le white true e = let r = below true (place + suc x.extra) xs le in (r.0, lexes_hash e r.1)
    hash_by place x xs le white false e = at_text place x xs le white e _ (scan_longest g.stepped g.kind_of g.rule_of g.start g.decides g.empty place (x ∷ xs))

    white_by : (place : ℕ) (x : Symbol) (xs : List Symbol) → length xs ≤ fuel → (b : Bool) → is_white x.class ≡ b → HasList false place (x ∷ xs)
    white_by place x xs le true e = let r = below false (place + suc x.extra) xs le in (r.0, lexes_white e r.1)
    white_by place x xs le false e = hash_by place x xs le e (is_hash x.class) refl

  list_within : (fuel : ℕ) (comment : Bool) (place : ℕ) (xs : List Symbol) → length xs ≤ fuel → HasList comment place xs
  list_within fuel comment place [] le = (_, lexes_end)
  list_within zero comment place (x ∷ xs) le = absurd (omega (arith, le))
  list_within (suc fuel) true place (x ∷ xs) le = in_comment fuel (λ c p ys l. list_within fuel c p ys l) place x xs (omega (arith, le)) (is_ill x.class) refl
  list_within (suc fuel) false place (x ∷ xs) le = white_by fuel (λ c p ys l. list_within fuel c p ys l) place x xs (omega (arith, le)) (is_white x.class) refl

  -- the characters have a list of tokens
  pub has_list : (comment : Bool) (place : ℕ) (xs : List Symbol) → HasList comment place xs
  has_list comment place xs = list_within (length xs) comment place xs (omega arith)

-- The token list of a text, for any set of rules: docs/FORMATS.md, "Characters".
use Rattle.std.specs.Prelude.{◌≡◌, ℕ, suc, ◌+◌, ◌<◌, ◌≤◌, List, [], ◌∷◌, take, drop, length, true, false, not, Bool}
use Rattle.terminals.specs.Utf8.{Symbol, classes_of, width_of}
use Rattle.terminals.specs.Groups.{is_white, is_hash, is_line_end, is_ill}
use Rattle.terminals.specs.Rules.{Rule, allows}

-- the first n characters are a token of this kind, and no more of them are any token
pub record IsLongest {K : Type 0} (rule_of : K → Rule) (xs : List Symbol) (k : K) (n : ℕ) : Type 0 where
  pub within : n ≤ length xs
  pub allowed : allows (rule_of k) (classes_of (take n xs)) ≡ true
  pub longest : (j : K) (m : ℕ) → n < m → m ≤ length xs → allows (rule_of j) (classes_of (take m xs)) ≡ false

-- no token begins here
abbrev pub HasNone : {K : Type 0} → (K → Rule) → List Symbol → Type 0
HasNone {K} rule_of xs = (j : K) (m : ℕ) → m ≤ length xs → allows (rule_of j) (classes_of (take m xs)) ≡ false

-- The characters from the place `at` on are these tokens. `token` makes a token of its kind and its two ends,
-- `bad` stands where no token can be read, `last` at the end; `comment` says whether the place is in a comment.
pub data Lexes {K T : Type 0} (rule_of : K → Rule) (token : K → ℕ → ℕ → T) (bad last : K) : (comment : Bool) → (at : ℕ) → List Symbol → List T → Type 0 where
  -- the text's end
  lexes_end : {c : Bool} {at : ℕ} → Lexes rule_of token bad last c at [] (token last at at ∷ [])
  -- white space
  lexes_white : {at : ℕ} {x : Symbol} {xs : List Symbol} {ts : List T} → is_white x.class ≡ true
      → Lexes rule_of token bad last false (at + suc x.extra) xs ts → Lexes rule_of token bad last false at (x ∷ xs) ts
  -- the beginning of a comment
  lexes_hash : {at : ℕ} {x : Symbol} {xs : List Symbol} {ts : List T} → is_hash x.class ≡ true
      → Lexes rule_of token bad last true (at + suc x.extra) xs ts → Lexes rule_of token bad last false at (x ∷ xs) ts
  -- a character of a comment, which a line end ends
  lexes_comment : {at : ℕ} {x : Symbol} {xs : List Symbol} {ts : List T} → is_ill x.class ≡ false
      → Lexes rule_of token bad last (not (is_line_end x.class)) (at + suc x.extra) xs ts → Lexes rule_of token bad last true at (x ∷ xs) ts
  -- an ill-formed byte of a comment
  lexes_ill : {at : ℕ} {x : Symbol} {xs : List Symbol} → is_ill x.class ≡ true
      → Lexes rule_of token bad last true at (x ∷ xs) (token bad at at ∷ [])
  -- the longest token
  lexes_token : {at to : ℕ} {x : Symbol} {xs : List Symbol} {k : K} {n : ℕ} {ts : List T} → is_white x.class ≡ false → is_hash x.class ≡ false
      → IsLongest rule_of (x ∷ xs) k n → to ≡ at + width_of (take n (x ∷ xs)) → Lexes rule_of token bad last false to (drop n (x ∷ xs)) ts
      → Lexes rule_of token bad last false at (x ∷ xs) (token k at to ∷ ts)
  -- no token
  lexes_bad : {at : ℕ} {x : Symbol} {xs : List Symbol} → is_white x.class ≡ false → is_hash x.class ≡ false → HasNone rule_of (x ∷ xs)
      → Lexes rule_of token bad last false at (x ∷ xs) (token bad at at ∷ [])

-- The removal of dot segments in the words of RFC 3986, section 5.2.4: rules that take an input
-- buffer and an output buffer apart and together, until the input is empty.
use Rattle.std.specs.Prelude.{ℕ, ◌≡◌, ◌==◌, List, [], ◌∷◌, ◌++◌, Bool, false, codes}
use Rattle.std.specs.List.{list_any, before_last}
use Rattle.iri_core.specs.Reference.{slash}
use Rattle.iri_core.specs.Dots.{is_dots}

abbrev pub has_slash : List ℕ → Bool
has_slash s = list_any (λ b. b == slash) s

-- the output without its last segment and the slash in front of it, if there is one
abbrev pub without_last : List ℕ → List ℕ
without_last out = before_last (λ b. b == slash) out

-- a segment ends here
pub data Ends : List ℕ → Type 0 where
  at_the_end : Ends []
  at_a_slash : (rest : List ℕ) → Ends (slash ∷ rest)

-- the rules lead from this input and this output to this result
pub data Removes : List ℕ → List ℕ → List ℕ → Type 0 where
  -- the input is empty
  finished : (out : List ℕ) → Removes [] out out
  -- A: a prefix "../" or "./" goes
  rule_a_up : (rest out r : List ℕ) → Removes rest out r → Removes (codes "../" ++ rest) out r
  rule_a : (rest out r : List ℕ) → Removes rest out r → Removes (codes "./" ++ rest) out r
  -- B: a prefix "/./", or "/." at the end, becomes "/"
  rule_b : (rest out r : List ℕ) → Removes (codes "/" ++ rest) out r → Removes (codes "/./" ++ rest) out r
  rule_b_end : (out r : List ℕ) → Removes (codes "/") out r → Removes (codes "/.") out r
  -- C: a prefix "/../", or "/.." at the end, becomes "/", and the last segment leaves the output
  rule_c : (rest out r : List ℕ) → Removes (codes "/" ++ rest) (without_last out) r → Removes (codes "/../" ++ rest) out r
  rule_c_end : (out r : List ℕ) → Removes (codes "/") (without_last out) r → Removes (codes "/..") out r
  -- D: an input that is only "." or ".." goes
  rule_d : (out r : List ℕ) → Removes [] out r → Removes (codes ".") out r
  rule_d_up : (out r : List ℕ) → Removes [] out r → Removes (codes "..") out r
  -- E: else the first segment, with the slash in front of it if there is one, moves to the output
  rule_e : (s rest out r : List ℕ) → has_slash s ≡ false → is_dots s ≡ false → Ends rest → Removes rest (out ++ slash ∷ s) r → Removes (slash ∷ s ++ rest) out r
  rule_e_first : (b : ℕ) (s rest out r : List ℕ) → has_slash (b ∷ s) ≡ false → is_dots (b ∷ s) ≡ false → Ends rest → Removes rest (out ++ b ∷ s) r → Removes (b ∷ s ++ rest) out r

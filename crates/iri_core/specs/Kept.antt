-- How the code holds the segments that it keeps: in the order of the path.
use Rattle.std.specs.Prelude.{ℕ, List, [], ◌∷◌, nat_lt, if◌then◌else◌, map, reverse}
use denote.Ref.{Bor}
use Rattle.iri_core.specs.Reference.{slash}
use Rattle.iri_core.specs.Dots.{Segment}

abbrev pub texts : List (Bor (List ℕ)) → List Segment
texts kept = map (λ (s : Bor (List ℕ)). s.now) kept

abbrev pub latest_first : List (Bor (List ℕ)) → List Segment
latest_first kept = reverse (texts kept)

-- what stands in front of the i-th segment
abbrev pub slash_before : ℕ → List ℕ
slash_before i = if nat_lt 0 i then slash ∷ [] else []

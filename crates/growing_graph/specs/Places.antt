-- Places in a list.
use Rattle.std.specs.Prelude.{ℕ, ◌+◌, Bool, false, List, [], ◌∷◌, Option, Some, None, if◌then◌else◌, filter, slice_get}

-- the places, counted from a number on, of the items that pass the test, ascending
abbrev pub places_from : {X : Type 0} → ℕ → (X → Bool) → List X → List ℕ
places_from n test [] = []
places_from n test (x ∷ xs) = if test x then n ∷ places_from (n + 1) test xs else places_from (n + 1) test xs

-- the places of the items that pass the test, ascending
abbrev pub places : {X : Type 0} → (X → Bool) → List X → List ℕ
places test xs = places_from 0 test xs

abbrev pub passes : {X : Type 0} → (X → Bool) → Option X → Bool
passes test None = false
passes test (Some x) = test x

-- those of the places whose item passes the test
abbrev pub kept_at : {X : Type 0} → (X → Bool) → List X → List ℕ → List ℕ
kept_at test xs ps = filter (λ place. passes test (slice_get xs place)) ps

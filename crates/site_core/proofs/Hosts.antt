-- The one Host field among some headers.
use Rattle.std.proofs.Common.{◌≡◌, ℕ, List, [], ◌∷◌, ◌++◌, refl, Option, Some, None}
use Rattle.site_core.specs.Serving.{only}

-- the value that is there
abbrev pub listed : Option (List ℕ) → List (List ℕ)
listed None = []
listed (Some value) = value ∷ []

pub only_listed : (host : Option (List ℕ)) → only (listed host ++ []) ≡ host
only_listed None = refl
only_listed (Some value) = refl

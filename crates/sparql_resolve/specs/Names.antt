-- The names of variables, in the order of their first appearance.
use Rattle.std.specs.Prelude.{ℕ, List, [], ◌∷◌, ◌++◌, length, nat_lt, bytes_eq, if◌then◌else◌}
use Rattle.std.specs.List.{list_any}

-- how many variables a query may have, with its blank nodes; a text of 65,536 bytes has no room for more
abbrev pub most_names : ℕ
most_names = 65535

-- the names with one more, which goes last where it isn't there
abbrev pub add_name : List (List ℕ) → List ℕ → List (List ℕ)
add_name names name = if nat_lt (length names) most_names then (if list_any (bytes_eq name) names then names else names ++ name ∷ []) else names

-- What the words of the server ask for: a port, and a number of connections (docs/FORMATS.md, "Words of the server").
use Rattle.std.specs.Prelude.{ℕ, ◌==◌, List, [], ◌∷◌, length, Bool, not, ◌&&◌, nat_le, Option, Some, None, if◌then◌else◌}
use Rattle.std.specs.List.{list_all}
use Rattle.std.specs.Str.Parse.{digits_value}
use Rattle.site_core.specs.Fields.{is_digit}

-- one or more digits; leading zeros are allowed
abbrev pub is_number : List ℕ → Bool
is_number text = not (length text == 0) && list_all is_digit text

abbrev pub in_range : ℕ → ℕ → ℕ → Option ℕ
in_range least most n = if nat_le least n && nat_le n most then Some n else None

-- the number that a word writes, where it writes one of the range
abbrev pub number_in : ℕ → ℕ → List ℕ → Option ℕ
number_in least most text = if is_number text then in_range least most (digits_value 10 text) else None

abbrev pub port_in : List ℕ → Option ℕ
port_in = number_in 1 65535

-- the port that the first word names
abbrev pub port_of : List (List ℕ) → Option ℕ
port_of [] = None
port_of (port ∷ words) = port_in port

abbrev pub count_at : Option ℕ → List ℕ → Option ℕ
count_at None count = None
count_at (Some port) count = number_in 1 1000000 count

-- the number of connections, where the words are a port and such a number
abbrev pub count_of : List (List ℕ) → Option ℕ
count_of [] = None
count_of (port ∷ []) = None
count_of (port ∷ count ∷ []) = count_at (port_in port) count
count_of (port ∷ count ∷ word ∷ words) = None

-- Texts of tokens: the bytes that a token stands for, where they are a text.
use Rattle.std.specs.Prelude.{◌≡◌, ℕ, List, [], ◌∷◌, Option, Some, None, unwrap_or, drop, if◌then◌else◌}
use Rattle.std.specs.Str.{is_utf8}
use Rattle.terminals.specs.Class.{classified}
use Rattle.terminals.specs.Groups.{hex_value}

-- the bytes, where they are UTF-8
abbrev pub plain : List ℕ → Option (List ℕ)
plain bytes = if is_utf8 bytes then Some bytes else None

-- the value of a byte as a hexadecimal digit
abbrev pub digit_of : ℕ → ℕ
digit_of b = unwrap_or (hex_value (classified b)) 0

-- the first of the bytes and those behind it
abbrev pub FirstIs : List ℕ → Option (ℕ × List ℕ) → Type 0
FirstIs bytes None = bytes ≡ []
FirstIs bytes (Some x) = bytes ≡ x.0 ∷ x.1

-- the name of a variable, without its mark
abbrev pub variable_text : List ℕ → List ℕ
variable_text bytes = drop 1 bytes

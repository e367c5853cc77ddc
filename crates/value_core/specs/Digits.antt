-- Numerals of XML Schema: signs, digits and points (XML Schema Definition Language 1.1 Part 2, sections 3.3.3 and 3.4.13).
use Rattle.std.specs.Prelude.{ℕ, ◌+◌, ◌-◌, ◌*◌, ◌^◌, Bool, false, ◌&&◌, ◌||◌, ◌==◌, nat_lt, if◌then◌else◌, List, [], ◌∷◌, length, ℤ, pos, neg_ℤ}
use Rattle.std.specs.Char.{is_ascii_digit}
use Rattle.std.specs.List.{list_all, before_first, after_first}

-- the characters `+`, `-`, `.` and `0`
abbrev pub plus : ℕ
plus = 43

abbrev pub minus : ℕ
minus = 45

abbrev pub point : ℕ
point = 46

abbrev pub zero_digit : ℕ
zero_digit = 48

-- whether the text begins with `-`
abbrev pub has_minus : List ℕ → Bool
has_minus [] = false
has_minus (c ∷ cs) = c == minus

-- the text after its sign, where it has one
abbrev pub unsigned : List ℕ → List ℕ
unsigned [] = []
unsigned (c ∷ cs) = if c == plus || c == minus then cs else c ∷ cs

-- what stands before the first point, or all where there is none
abbrev pub front_of : List ℕ → List ℕ
front_of text = before_first (λ c. c == point) text

-- what stands after the first point, or nothing where there is none
abbrev pub back_of : List ℕ → List ℕ
back_of text = after_first (λ c. c == point) text

-- digits, at least one, of which some may stand after a point
abbrev pub are_digits : List ℕ → List ℕ → Bool
are_digits front back = nat_lt 0 (length front + length back) && (list_all is_ascii_digit front && list_all is_ascii_digit back)

-- the number that decimal digits write: each digit counts by how many stand after it
abbrev pub whole_of : List ℕ → ℕ
whole_of [] = 0
whole_of (d ∷ ds) = (d - zero_digit) * 10 ^ length ds + whole_of ds

-- the number with its sign
abbrev pub signed : Bool → ℕ → ℤ
signed negative n = if negative then neg_ℤ (pos n) else pos n

-- the integer that an optional sign and digits write
abbrev pub integer_of : List ℕ → ℤ
integer_of text = signed (has_minus text) (whole_of (unsigned text))

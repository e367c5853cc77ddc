-- The length that values of Content-Length state (RFC 9110, section 8.6; lists by RFC 9112, section 6.3).
use Rattle.std.specs.Prelude.{ℕ, ◌+◌, ◌-◌, ◌*◌, ◌^◌, List, [], ◌∷◌, ◌++◌, Bool, true, false, ◌&&◌, ◌||◌, ◌==◌, take, if◌then◌else◌, nat_lt, Option, Some, None}
use Rattle.std.specs.List.{flat_map}
use Rattle.http_header.specs.FieldValue.{FieldValue}
use Rattle.link_uri.specs.Heard.{trim_front, trim_back}

-- `b','`, which parts the members of a list
abbrev pub comma : ℕ
comma = 44

-- the bytes without the spaces and tabs at both ends
abbrev pub trimmed : List ℕ → List ℕ
trimmed bytes = trim_back (trim_front bytes)

-- the number that digits go on to give, where it fits 64 bits
abbrev pub number_from : ℕ → List ℕ → Option ℕ
number_from n [] = Some n
number_from n (b ∷ bs) =
    if nat_lt b 48 || nat_lt 57 b then None
    else (if nat_lt (10 * n + (b - 48)) (2 ^ 64) then number_from (10 * n + (b - 48)) bs else None)

-- the number of one or more digits, where it fits 64 bits
abbrev pub number_of : List ℕ → Option ℕ
number_of [] = None
number_of (b ∷ bs) = number_from 0 (b ∷ bs)

-- the members of a list with commas, of whose first these bytes have come
abbrev pub members_from : List ℕ → List ℕ → List (List ℕ)
members_from member [] = member ∷ []
members_from member (b ∷ bs) = if b == comma then member ∷ members_from [] bs else members_from (member ++ b ∷ []) bs

-- the members of a value: all of it where it has no comma
abbrev pub members : List ℕ → List (List ℕ)
members value = members_from [] value

-- the number is there, and it is n
abbrev pub is_number : ℕ → Option ℕ → Bool
is_number n None = false
is_number n (Some k) = k == n

-- the member is the number n once it is trimmed
abbrev pub states : ℕ → List ℕ → Bool
states n member = is_number n (number_of (trimmed member))

-- each member is the number n
abbrev pub all_state : ℕ → List (List ℕ) → Bool
all_state n [] = true
all_state n (m ∷ ms) = states n m && all_state n ms

-- the one number that each member is, and none where there is no such number
abbrev pub one_number : List (List ℕ) → Option ℕ
one_number [] = None
one_number (m ∷ ms) = elim (number_of (trimmed m)) [ None ↦ None | Some n ↦ if all_state n ms then Some n else None ]

-- the members of all values
abbrev pub all_members : List FieldValue → List (List ℕ)
all_members values = flat_map (λ v. members v.bytes) values

-- the length that the values state, and none where they state none or several
abbrev pub length_of : List FieldValue → Option ℕ
length_of values = one_number (all_members values)

-- ---- the first member, by its place

-- the length of the first member of a list
abbrev pub first_len : List ℕ → ℕ
first_len [] = 0
first_len (b ∷ bs) = if b == comma then 0 else first_len bs + 1

-- the number that the first member is
abbrev pub first_number : List ℕ → Option ℕ
first_number list = number_of (trimmed (take (first_len list) list))

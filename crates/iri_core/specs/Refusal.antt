-- Which texts are IRI references. The excluded characters are those that IRIREF leaves out (RDF 1.1
-- Turtle, section 6.5); the form of a scheme is that of RFC 3986, section 3.1.
use Rattle.std.specs.Prelude.{ℕ, ◌||◌, ◌&&◌, ⊤, List, Bool, not, Option, None, Some, Result, Ok, Err, nat_le, nat_lt, if◌then◌else◌, length, slice_index, take, position, codes}
use Rattle.std.specs.List.{list_all}
use Rattle.iri_core.specs.declared.refusal.NotAnIri.{NotAnIri}
use Rattle.iri_core.specs.Reference.{is_among, first_of, is_at, colon}

-- a character up to the space, or one of the signs that would end or break a reference in brackets
abbrev pub is_excluded : ℕ → Bool
is_excluded b = nat_le b 32 || is_among (codes "<>\"{}|^`\\") b

abbrev pub is_letter : ℕ → Bool
is_letter b = (nat_le 65 b && nat_le b 90) || (nat_le 97 b && nat_le b 122)

abbrev pub is_digit : ℕ → Bool
is_digit b = nat_le 48 b && nat_le b 57

-- a letter, a digit, or one of + - .
abbrev pub is_scheme_byte : ℕ → Bool
is_scheme_byte b = is_letter b || is_digit b || is_among (codes "+-.") b

unfoldable pub begins_with_letter : List ℕ → Bool
begins_with_letter bs = nat_lt 0 (length bs) && is_letter (slice_index bs 0)

-- a letter first, and nothing but letters, digits and + - .
abbrev pub is_scheme : List ℕ → Bool
is_scheme bs = begins_with_letter bs && list_all is_scheme_byte bs

-- a colon comes before any of / ? # and what stands before it is no scheme
abbrev pub has_bad_scheme_by : List ℕ → ℕ → Bool
has_bad_scheme_by text end = is_at text end colon && not (is_scheme (take end text))

unfoldable pub has_bad_scheme : List ℕ → Bool
has_bad_scheme text = has_bad_scheme_by text (first_of (codes ":/?#") text 0)

abbrev pub place_by : Option ℕ → Bool → Option ℕ
place_by (Some at) bad = Some at
place_by None bad = if bad then Some 0 else None

-- where the text is refused: at its first excluded character, else at 0 for what is no scheme
abbrev pub place_refused : List ℕ → Option ℕ
place_refused text = place_by (position is_excluded text) (has_bad_scheme text)

abbrev pub checked_by : Option ℕ → Result ⊤ NotAnIri
checked_by None = Ok tt
checked_by (Some at) = Err (record { at = at })

-- what the check answers
abbrev pub checked : List ℕ → Result ⊤ NotAnIri
checked text = checked_by (place_refused text)

-- What may stand in the lines of a site file (docs/FORMATS.md, "Site file").
use Rattle.std.specs.Prelude.{ℕ, ◌-◌, ◌==◌, List, length, take, drop, Bool, true, false, not, ◌&&◌, ◌||◌, nat_le, bytes_eq, slice_index, Option, Some, None, if◌then◌else◌}
use Rattle.std.specs.List.{list_all}
use Rattle.std.specs.Str.Parse.{digits_value}
use Rattle.link_uri.specs.Links.{link_of}
use Rattle.link_uri.specs.declared.link.Link.{Link}
use Rattle.link_uri.specs.declared.link.Scheme.{Scheme}
use Rattle.link_uri.specs.declared.link.Scheme.TheVariants.{Http, Https}

-- the byte that ends a line
abbrev pub is_lf : ℕ → Bool
is_lf byte = byte == 10

-- the bytes of a value
abbrev pub is_printable : ℕ → Bool
is_printable byte = nat_le 32 byte && nat_le byte 126

-- one or more of them, without a space at either end
abbrev pub is_value : List ℕ → Bool
is_value value = not (length value == 0) && (list_all is_printable value && (not (slice_index value 0 == 32) && not (slice_index value (length value - 1) == 32)))

-- one digit or more, the first of which is no zero unless it is the only one
abbrev pub is_digit : ℕ → Bool
is_digit byte = nat_le 48 byte && nat_le byte 57

abbrev pub is_number : List ℕ → Bool
is_number digits = not (length digits == 0) && (list_all is_digit digits && (not (slice_index digits 0 == 48) || (length digits == 1)))

-- the number that a text writes, if it writes one so
abbrev pub number_of : List ℕ → Option ℕ
number_of text = if is_number text then Some (digits_value 10 text) else None

-- a final status that may have a body (RFC 9110, section 15; not 204 and 304)
abbrev pub is_status : ℕ → Bool
is_status n = nat_le 200 n && (nat_le n 599 && not ((n == 204) || (n == 304)))

-- the bytes of a serialized URL (URL Standard, section 4.5)
abbrev pub is_visible : ℕ → Bool
is_visible byte = nat_le 33 byte && nat_le byte 126

abbrev pub is_http : Scheme → Bool
is_http Http = true
is_http Https = false

-- the link has this very text, and the scheme http
abbrev pub is_own_http : List ℕ → Option Link → Bool
is_own_http text None = false
is_own_http text (Some link) = is_http link.scheme && bytes_eq link.text text

-- a link text: the text of its own link, of the scheme http
unfoldable pub is_site_link : List ℕ → Bool
is_site_link text = list_all is_visible text && is_own_http text (link_of text)

-- what stands behind a word that a line begins with
abbrev pub behind : List ℕ → List ℕ → Option (List ℕ)
behind word line = if bytes_eq (take (length word) line) word then Some (drop (length word) line) else None

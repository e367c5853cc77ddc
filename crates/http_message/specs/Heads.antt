-- What a whole response head is, and its fields by name (RFC 9112, sections 4 and 5).
use Rattle.std.specs.Prelude.{ℕ, ◌+◌, ◌≤◌, List, [], ◌++◌, map, length, codes, fold, Bool, true, false, if◌then◌else◌}
use Rattle.httparse.specs.declared.spans.HeaderSpan.{HeaderSpan}
use Rattle.httparse.specs.Spans.{header_bytes, name_and_value}
use Rattle.httparse.specs.Grammar.{Field, ResponseHead, ReadsResponse}
use Rattle.http_header.specs.Token.{lowercase}
use Rattle.http_header.specs.FieldValue.{FieldValue, plain_value, IsFieldValue}
use Rattle.http_header.specs.HeaderMap.{Entries, append_all, value_count}
use Rattle.http_header.specs.FieldName.{IsFieldName}

-- the most fields of a head
abbrev pub max_fields : ℕ
max_fields = 128

-- the bytes are this head from the first to the last, and it has no more fields than that
pub record IsHead (bytes : List ℕ) (h : ResponseHead) : Type 0 where
  pub reads : ReadsResponse bytes h []
  pub fits : length h.fields ≤ max_fields

-- fields by name in lower case, each with its values in order
abbrev pub Fields : Type 0
Fields = Entries FieldValue

-- a name and a value as they are kept
abbrev pub stored : List ℕ × List ℕ → List ℕ × FieldValue
stored p = (lowercase p.0, plain_value p.1)

-- the fields of a head; each value is without the white space at its ends
abbrev pub fields_of : List Field → Fields
fields_of fields = append_all [] (map stored (map name_and_value fields))

-- the fields that spans of a buffer cover
abbrev pub fields_at : List ℕ → List HeaderSpan → Fields
fields_at buf headers = append_all [] (map stored (map (header_bytes buf) headers))

-- a text with one more value, after a comma and a space unless it is the first
abbrev pub with_value : List ℕ × Bool → FieldValue → List ℕ × Bool
with_value text v = (text.0 ++ ((if text.1 then [] else codes ", ") ++ v.bytes), false)

-- the values with a comma and a space between (RFC 9110, section 5.3)
abbrev pub joined : List FieldValue → List ℕ
joined values = (fold with_value ([], true) values).0

-- a name and a value that a map of fields takes
abbrev pub IsStorable : List ℕ × List ℕ → Type 0
IsStorable p = IsFieldName p.0 × IsFieldValue p.1

-- the map has room for so many more values
pub record HasRoomFor (m : Fields) (more : ℕ) : Type 0 where
  pub names : length m + more ≤ max_fields
  pub values : value_count m + more ≤ max_fields

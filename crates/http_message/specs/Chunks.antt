-- Bodies in chunks (RFC 9112, section 7.1).
use Rattle.std.specs.Prelude.{ℕ, ◌+◌, ◌-◌, ◌*◌, ◌^◌, List, [], ◌∷◌, ◌++◌, length, Bool, false, ◌&&◌, ◌||◌, if◌then◌else◌, ◌==◌, nat_lt, nat_le, Option, Some, None}
use Rattle.http_message.specs.declared.lines.Place.{Place}
use Rattle.http_message.specs.declared.lines.Place.TheVariants.{Front}
use Rattle.http_message.specs.Lines.{next_place, ends_empty}

-- ---- the line before a chunk's data

-- the value of a hexadecimal digit
abbrev pub hex_value : ℕ → Option ℕ
hex_value b =
    if nat_le 48 b && nat_le b 57 then Some (b - 48)
    else (if nat_le 97 b && nat_le b 102 then Some (b - 87)
    else (if nat_le 65 b && nat_le b 70 then Some (b - 55) else None))

-- the bytes are CR LF
abbrev pub is_crlf : List ℕ → Bool
is_crlf (a ∷ b ∷ []) = a == 13 && b == 10
is_crlf bs = false

-- the bytes are CR LF behind bytes other than these two
abbrev pub ends_extension : List ℕ → Bool
ends_extension [] = false
ends_extension (b ∷ bs) = if b == 13 || b == 10 then is_crlf (b ∷ bs) else ends_extension bs

-- the bytes are spaces and tabs, perhaps a semicolon and an extension, and CR LF
abbrev pub ends_line : List ℕ → Bool
ends_line [] = false
ends_line (b ∷ bs) =
    if b == 32 || b == 9 then ends_line bs
    else (if b == 59 then ends_extension bs else is_crlf (b ∷ bs))

-- the size that the rest of a chunk line gives after digits of the value n
abbrev pub size_from : ℕ → List ℕ → Option ℕ
size_from n [] = None
size_from n (b ∷ bs) =
    elim (hex_value b) [
      | Some d ↦ if nat_lt (16 * n + d) (2 ^ 64) then size_from (16 * n + d) bs else None
      | None ↦ if ends_line (b ∷ bs) then Some n else None
    ]

-- the size that a whole chunk line gives: one or more digits whose value fits 64 bits come first
abbrev pub size_of : List ℕ → Option ℕ
size_of [] = None
size_of (b ∷ bs) = elim (hex_value b) [ Some d ↦ size_from 0 (b ∷ bs) | None ↦ None ]

-- ---- the body

-- what some bytes of a body have come to
pub data BodyRead : Type 0 where
  whole_body : List ℕ → BodyRead
  -- malformed
  bad_body : BodyRead
  -- longer than the limit
  long_body : BodyRead
  -- undecided: the body where the input ends here, or None where it is cut then
  part_body : Option (List ℕ) → BodyRead

-- where a byte stands in a chunked body
pub data ChunkPlace : Type 0 where
  -- in a chunk's line, of which these bytes have come
  in_line : List ℕ → ChunkPlace
  -- in a chunk's data, of which so many bytes are to come
  in_data : ℕ → ChunkPlace
  after_data after_cr : ChunkPlace
  -- in the trailers, of which so many bytes have come
  in_trailers : Place → ℕ → ChunkPlace

-- the most bytes of a chunk line, its end included, and of the trailers, the empty line included
abbrev pub line_limit : ℕ
line_limit = 1024

abbrev pub trailer_limit : ℕ
trailer_limit = 65536

-- what follows a chunk line of this size: the trailers where it is 0, else the data
abbrev pub after_line : Option ℕ → Option ChunkPlace
after_line None = None
after_line (Some n) = if n == 0 then Some (in_trailers Front 0) else Some (in_data n)

-- where the byte after this one stands, and None where the line is malformed: it is judged at its LF or its last byte allowed
abbrev pub line_step : List ℕ → ℕ → Option ChunkPlace
line_step line b =
    if b == 10 then after_line (size_of (line ++ b ∷ []))
    else (if nat_le line_limit (length line + 1) then None else Some (in_line (line ++ b ∷ [])))

-- in a chunk's data, or after it, where so many bytes are to come
abbrev pub data_place : ℕ → ChunkPlace
data_place n = if n == 0 then after_data else in_data n

-- what the body comes to from a place on, where these bytes of it have come
unfoldable pub chunked : ℕ → ChunkPlace → List ℕ → List ℕ → BodyRead
chunked limit place body [] = part_body None
chunked limit (in_line line) body (b ∷ bs) =
    elim (line_step line b) [ None ↦ bad_body | Some place ↦ chunked limit place body bs ]
chunked limit (in_data left) body (b ∷ bs) =
    if nat_le limit (length body) then long_body
    else chunked limit (data_place (left - 1)) (body ++ b ∷ []) bs
chunked limit after_data body (b ∷ bs) = if b == 13 then chunked limit after_cr body bs else bad_body
chunked limit after_cr body (b ∷ bs) = if b == 10 then chunked limit (in_line []) body bs else bad_body
chunked limit (in_trailers place seen) body (b ∷ bs) =
    if ends_empty place b then whole_body body
    else (if nat_le trailer_limit (seen + 1) then bad_body else chunked limit (in_trailers (next_place place b) (seen + 1)) body bs)

-- the same from a place, and malformed where there is none
abbrev pub chunked_at : ℕ → Option ChunkPlace → List ℕ → List ℕ → BodyRead
chunked_at limit None body bytes = bad_body
chunked_at limit (Some place) body bytes = chunked limit place body bytes

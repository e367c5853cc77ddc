-- What the state in a chunk's line says of the bytes that are to come.
use Rattle.std.specs.Prelude.{ℕ, ◌+◌, ◌*◌, ◌^◌, List, [], ◌∷◌, ◌||◌, if◌then◌else◌, ◌==◌, nat_lt, nat_le, Option, Some, None}
use Rattle.http_message.specs.declared.chunk_line.ChunkLine.{ChunkLine}
use Rattle.http_message.specs.declared.chunk_line.ChunkLine.TheVariants.{Front, Digits, Blanks, Extension, Cr, Bad}
use Rattle.http_message.specs.Chunks.{BodyRead, bad_body, part_body, hex_value, size_of, size_from, ends_line, ends_extension, is_crlf, after_line, chunked_at, line_limit}

-- the size that the line gives with these more bytes
abbrev pub size_at : ChunkLine → List ℕ → Option ℕ
size_at Front more = size_of more
size_at (Digits n) more = size_from n more
size_at (Blanks n) more = if ends_line more then Some n else None
size_at (Extension n) more = if ends_extension more then Some n else None
size_at (Cr n) more = if is_crlf (13 ∷ more) then Some n else None
size_at Bad more = None

-- the state after a byte that is no digit behind digits of the value n
abbrev pub after_size : ℕ → ℕ → ChunkLine
after_size n b = if b == 32 || b == 9 then Blanks n else (if b == 59 then Extension n else (if b == 13 then Cr n else Bad))

-- the state after one more digit, whose value may not fit
abbrev pub with_digit : ℕ → ℕ → ChunkLine
with_digit n d = if nat_lt (16 * n + d) (2 ^ 64) then Digits (16 * n + d) else Bad

-- the state after a byte behind digits of the value n
abbrev pub after_digits : ℕ → ℕ → ChunkLine
after_digits n b = elim (hex_value b) [ None ↦ after_size n b | Some d ↦ with_digit n d ]

-- the state after a byte other than LF
abbrev pub next_in_line : ChunkLine → ℕ → ChunkLine
next_in_line Front b = elim (hex_value b) [ None ↦ Bad | Some d ↦ Digits d ]
next_in_line (Digits n) b = after_digits n b
next_in_line (Blanks n) b = after_size n b
next_in_line (Extension n) b = if b == 13 then Cr n else Extension n
next_in_line (Cr n) b = Bad
next_in_line Bad b = Bad

-- the size that the line gives where its LF comes next
abbrev pub size_at_end : ChunkLine → Option ℕ
size_at_end (Cr n) = Some n
size_at_end line = None

-- what a body in chunks comes to from within a line, of which so many bytes have come
unfoldable pub lined : ℕ → ChunkLine → ℕ → List ℕ → List ℕ → BodyRead
lined limit line seen body [] = part_body None
lined limit line seen body (b ∷ bs) =
    if b == 10 then chunked_at limit (after_line (size_at_end line)) body bs
    else (if nat_le line_limit (seen + 1) then bad_body else lined limit (next_in_line line b) (seen + 1) body bs)

-- What tokens stand for, once their escapes are undone, as bytes of UTF-8: docs/FORMATS.md, "Characters".
use Rattle.std.specs.Prelude.{ℕ, zero, suc, ◌+◌, ◌-◌, List, [], ◌∷◌, ◌++◌, take, drop, length, slice_index, ◌==◌, ◌&&◌, map, nat_le, unwrap_or, encode_utf8, if◌then◌else◌}
use Rattle.std.specs.List.{before_first, after_first}
use Rattle.terminals.specs.Class.{classified, in_range}
use Rattle.terminals.specs.Groups.{hex_value}
use Rattle.terminals.specs.Rules.{with_digit}
use Rattle.terminals.specs.Terminals.{is_scalar}

-- the number that bytes make as hexadecimal digits, behind those that made the first number
abbrev pub number_from : ℕ → List ℕ → ℕ
number_from n [] = n
number_from n (b ∷ bytes) = number_from (with_digit n (unwrap_or (hex_value (classified b)) 0)) bytes

-- how many bytes an escape takes behind its backslash: u and four digits, U and eight, or one character
abbrev pub escape_width : ℕ → ℕ
escape_width b = if b == 117 then 5 else (if b == 85 then 9 else 1)

-- what an escape of one character stands for: t, b, n, r, f, or itself
abbrev pub escaped : ℕ → ℕ
escaped b = if b == 116 then 9 else (if b == 98 then 8 else (if b == 110 then 10 else (if b == 114 then 13 else (if b == 102 then 12 else b))))

-- the bytes of a code point, which in a token is always a scalar value
abbrev pub scalar_text : ℕ → List ℕ
scalar_text n = if is_scalar n then encode_utf8 n else []

-- what the escape stands for that these bytes begin with, behind its backslash
abbrev pub escape_text : List ℕ → List ℕ
escape_text bytes =
    let b = slice_index bytes 0 in
    if b == 117 then scalar_text (number_from 0 (take 4 (drop 1 bytes)))
    else (if b == 85 then scalar_text (number_from 0 (take 8 (drop 1 bytes)))
    else escaped b ∷ [])

-- the same bytes with the escapes undone that begin in the first so many
unfoldable pub unescaped_upto : ℕ → List ℕ → List ℕ
unescaped_upto zero bytes = []
unescaped_upto (suc n) [] = []
unescaped_upto (suc n) (b ∷ bytes) =
    if b == 92 then escape_text bytes ++ unescaped_upto n (drop (escape_width (slice_index bytes 0)) bytes)
    else b ∷ unescaped_upto n bytes

-- the bytes with their escapes undone
abbrev pub unescaped : List ℕ → List ℕ
unescaped bytes = unescaped_upto (length bytes) bytes

-- the bytes without so many at either end
abbrev pub inner : ℕ → List ℕ → List ℕ
inner n bytes = take (length bytes - (n + n)) (drop n bytes)

-- the text of an IRIREF, from its bytes
abbrev pub iri_text : List ℕ → List ℕ
iri_text bytes = unescaped (inner 1 bytes)

-- how many quotes stand at either end of a string: three where it begins with three
abbrev pub quotes_of : List ℕ → ℕ
quotes_of bytes = if nat_le 6 (length bytes) && (slice_index bytes 1 == slice_index bytes 0 && slice_index bytes 2 == slice_index bytes 0) then 3 else 1

-- the text of a string, from the bytes of its token
abbrev pub string_text : List ℕ → List ℕ
string_text bytes = unescaped (inner (quotes_of bytes) bytes)

-- the prefix of a Name: what stands before its first colon
abbrev pub prefix_text : List ℕ → List ℕ
prefix_text bytes = before_first (λ b. b == 58) bytes

-- the local name of a Name, with its escapes undone
abbrev pub local_text : List ℕ → List ℕ
local_text bytes = unescaped (after_first (λ b. b == 58) bytes)

-- the label of a BLANK_NODE_LABEL, without its underscore and colon
abbrev pub label_text : List ℕ → List ℕ
label_text bytes = drop 2 bytes

-- a letter in lower case
abbrev pub lower : ℕ → ℕ
lower b = if in_range 65 90 b then b + 32 else b

-- a language tag without its @, in lower case
abbrev pub tag_text : List ℕ → List ℕ
tag_text bytes = map lower (drop 1 bytes)

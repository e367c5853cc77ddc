-- Bodies in chunks as they are spelled (RFC 9112, section 7.1).
use Rattle.std.specs.Prelude.{◌≡◌, ℕ, ◌<◌, ◌≤◌, false, ◌==◌, List, [], ◌∷◌, ◌++◌, length, Some}
use Rattle.http_message.specs.Chunks.{size_of, line_limit}

-- no byte is LF
abbrev pub NoLf : List ℕ → Type 0
NoLf [] = Unit {0}
NoLf (b ∷ bs) = ((b == 10) ≡ false) × NoLf bs

-- a chunk line within its limit that gives this size
pub record IsLine (line : List ℕ) (size_is : ℕ) : Type 0 where
  pub front : List ℕ
  pub ends : line ≡ front ++ 10 ∷ []
  pub no_lf : NoLf front
  pub short : length line ≤ line_limit
  pub size : size_of line ≡ Some size_is

-- a chunk: its line, and its data
pub record Chunk : Type 0 where
  pub line : List ℕ
  pub bytes : List ℕ

-- there is data, and the line gives its length
pub record IsChunk (c : Chunk) : Type 0 where
  pub some : 0 < length c.bytes
  pub line : IsLine c.line (length c.bytes)

abbrev pub EachChunk : List Chunk → Type 0
EachChunk [] = Unit {0}
EachChunk (c ∷ cs) = IsChunk c × EachChunk cs

abbrev pub text_of : Chunk → List ℕ
text_of c = c.line ++ (c.bytes ++ 13 ∷ 10 ∷ [])

abbrev pub data_of : List Chunk → List ℕ
data_of [] = []
data_of (c ∷ cs) = c.bytes ++ data_of cs

-- the chunks, a last line, and an empty line
abbrev pub spelled : List Chunk → List ℕ → List ℕ
spelled [] last = last ++ 13 ∷ 10 ∷ []
spelled (c ∷ cs) last = text_of c ++ spelled cs last

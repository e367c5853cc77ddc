-- The lines of an N-Triples text (RDF 1.1 N-Triples, section 2): what stands on each, and where it ends.
use Rattle.std.specs.Prelude.{◌≡◌, ℕ, ◌+◌, ◌==◌, ◌||◌, List, [], ◌∷◌, Bool, true, false, Option, Some, None, length, slice_range, position, if◌then◌else◌}
use Rattle.turtle_lexer.specs.declared.kind.TurtleKind.{TurtleKind}
use Rattle.turtle_lexer.specs.declared.kind.TurtleKind.TheVariants as kinds
use Rattle.turtle_lexer.specs.declared.token.Token.{Token}
use Rattle.ntriples_reader.specs.declared.piece.Item.{Item}
use Rattle.ntriples_reader.specs.Pieces.{item_of}

-- a line: the tokens on it, and the place of its line end or the text's length
pub record Line : Type 0 where
  pub items : List Item
  pub end : ℕ

-- one line or more: the first, and those behind it
pub record Lines : Type 0 where
  pub items : List Item
  pub end : ℕ
  pub more : List Line

abbrev pub first_line : Lines → Line
first_line ls = record { items = ls.items; end = ls.end }

-- no more tokens
abbrev pub is_empty : List Item → Bool
is_empty [] = true
is_empty (x ∷ xs) = false

-- CR or LF
abbrev pub is_line_end : ℕ → Bool
is_line_end b = b == 13 || b == 10

-- places count from another place on
abbrev pub placed : ℕ → Option ℕ → Option ℕ
placed from None = None
placed from (Some n) = Some (from + n)

-- where a line ends between two tokens: at the first CR or LF there, which is never inside a comment
unfoldable pub line_end_between : List ℕ → ℕ → ℕ → Option ℕ
line_end_between bytes from to = placed from (position is_line_end (slice_range bytes from to))

-- the token as the first on the first line
abbrev pub on_line : Item → Lines → Lines
on_line x ls = record { items = x ∷ ls.items; end = ls.end; more = ls.more }

-- an empty line, which ends here, in front of the lines
abbrev pub line_before : ℕ → Lines → Lines
line_before n ls = record { items = []; end = n; more = first_line ls ∷ ls.more }

-- an empty line, which the text's end ends
abbrev pub last_line : ℕ → Lines
last_line n = record { items = []; end = n; more = [] }

abbrev pub broken : Option ℕ → Lines → Lines
broken None ls = ls
broken (Some n) ls = line_before n ls

abbrev pub is_end : TurtleKind → Bool
is_end kinds.End = true
is_end _ = false

-- the lines from a token on, given those behind it
abbrev pub from_token : List ℕ → Token → Lines → Lines
from_token bytes t ls = if is_end t.kind then last_line t.from else on_line (item_of bytes t) ls

-- the lines from a place on, by the tokens that stand there
unfoldable pub lines_from : List ℕ → ℕ → List Token → Lines
lines_from bytes at [] = last_line (length bytes)
lines_from bytes at (t ∷ ts) = broken (line_end_between bytes at t.from) (from_token bytes t (lines_from bytes t.to ts))

-- the lines of a text by its tokens
abbrev pub lines_of : List ℕ → List Token → Lines
lines_of bytes ts = lines_from bytes 0 ts

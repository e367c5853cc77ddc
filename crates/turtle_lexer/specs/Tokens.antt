-- The token list of a text of Turtle or of N-Triples.
use Rattle.std.specs.Prelude.{◌≡◌, ℕ, ◌<◌, ◌≤◌, List, [], ◌∷◌, ◌++◌, All, drop, slice_range, true, false, Bool, nat_eq, if◌then◌else◌}
use Rattle.std.specs.List.{starts_with}
use Rattle.std.specs.Str.{IsUtf8}
use Rattle.terminals.specs.Utf8.{Symbol, symbols_of}
use Rattle.terminals.specs.Tokens.{Lexes}
use Rattle.turtle_lexer.specs.declared.dialect.Dialect.{Dialect}
use Rattle.turtle_lexer.specs.declared.dialect.Dialect.TheVariants as dialects
use Rattle.turtle_lexer.specs.declared.kind.TurtleKind.{TurtleKind}
use Rattle.turtle_lexer.specs.declared.kind.TurtleKind.TheVariants as kinds
use Rattle.turtle_lexer.specs.declared.token.Token.{Token}
use Rattle.turtle_lexer.specs.declared.lexing.Next.{Next}
use Rattle.turtle_lexer.specs.declared.lexing.Next.TheVariants as nexts
use Rattle.turtle_lexer.specs.Rules.{rule_in}
use Rattle.turtle_lexer.specs.State.{HasNoPrefixedName}

-- a token of its kind and its two ends
abbrev pub token_of : TurtleKind → ℕ → ℕ → Token
token_of kind from to = record { kind = kind; from = from; to = to }

-- the characters from a place on are these tokens
abbrev pub LexesIn : Dialect → Bool → ℕ → List Symbol → List Token → Type 0
LexesIn d comment at xs ts = Lexes (rule_in d) token_of kinds.Bad kinds.End comment at xs ts

-- the bytes of the byte order mark, U+FEFF
abbrev pub byte_order_mark : List ℕ
byte_order_mark = 0xef ∷ 0xbb ∷ 0xbf ∷ []

-- how many bytes are skipped at the very beginning: those of one byte order mark
abbrev pub skipped : List ℕ → ℕ
skipped bytes = if starts_with nat_eq bytes byte_order_mark then 3 else 0

-- the text has these tokens in a language
abbrev pub TokensIn : Dialect → List ℕ → List Token → Type 0
TokensIn d bytes ts = LexesIn d false (skipped bytes) (symbols_of (drop (skipped bytes) bytes)) ts

abbrev pub TurtleTokens : List ℕ → List Token → Type 0
TurtleTokens bytes ts = TokensIn dialects.Turtle bytes ts

abbrev pub NTriplesTokens : List ℕ → List Token → Type 0
NTriplesTokens bytes ts = TokensIn dialects.NTriples bytes ts

-- the token's bytes are bytes of a text of this length
abbrev pub HasSpan : ℕ → Token → Type 0
HasSpan len t = (t.from ≤ t.to) × (t.to ≤ len)

-- the token's bytes are UTF-8, as the standard library has it
abbrev pub IsPlain : List ℕ → Token → Type 0
IsPlain bytes t = IsUtf8 (slice_range bytes t.from t.to)

-- Bad or End, behind which no token stands
abbrev pub is_last : TurtleKind → Bool
is_last kinds.Bad = true
is_last kinds.End = true
is_last _ = false

-- the last of the tokens, and no other, is Bad or End
abbrev pub IsEnded : List Token → Type 0
IsEnded ts = (front : List Token) × (t : Token) × (ts ≡ front ++ t ∷ []) × All (λ t. is_last t.kind ≡ false) front × (is_last t.kind ≡ true)

-- ---- one token after the other

-- what stands at a place, with the tokens from its end on, is the tokens from the place on
abbrev pub IsNext : Dialect → List ℕ → ℕ → Next → Type 0
IsNext d bytes at (nexts.Token t) = (ts : List Token) → LexesIn d false t.to (symbols_of (drop t.to bytes)) ts → LexesIn d false at (symbols_of (drop at bytes)) (t ∷ ts)
IsNext d bytes at (nexts.Last t) = LexesIn d false at (symbols_of (drop at bytes)) (t ∷ [])

-- it lies in the text; and behind one that others follow the text goes on further on
abbrev pub IsWithin : ℕ → ℕ → Next → Type 0
IsWithin at len (nexts.Token t) = (at < t.to) × HasSpan len t
IsWithin at len (nexts.Last t) = HasSpan len t

-- only the last token of a list is Bad or End
abbrev pub IsPlaced : Next → Type 0
IsPlaced (nexts.Token t) = is_last t.kind ≡ false
IsPlaced (nexts.Last t) = is_last t.kind ≡ true

-- its bytes are UTF-8
abbrev pub HasPlain : List ℕ → Next → Type 0
HasPlain bytes (nexts.Token t) = IsPlain bytes t
HasPlain bytes (nexts.Last t) = IsPlain bytes t

-- no name's colon comes behind it up to `no_colon_before`
abbrev pub HasNoPrefixedNameBehind : Dialect → ℕ → List ℕ → Next → Type 0
HasNoPrefixedNameBehind d no_colon_before bytes (nexts.Token t) = HasNoPrefixedName d no_colon_before t.to (symbols_of (drop t.to bytes))
HasNoPrefixedNameBehind d no_colon_before bytes (nexts.Last t) = Unit {0}

-- The token list of a query's text (SPARQL 1.1 Query Language, section 19.8).
use Rattle.std.specs.Prelude.{◌≡◌, ℕ, ◌<◌, ◌≤◌, List, [], ◌∷◌, ◌++◌, All, drop, slice_range, true, false, Bool, nat_eq, if◌then◌else◌}
use Rattle.std.specs.List.{starts_with}
use Rattle.std.specs.Str.{IsUtf8}
use Rattle.terminals.specs.Utf8.{Symbol, symbols_of}
use Rattle.terminals.specs.Tokens.{Lexes}
use Rattle.sparql_lexer.specs.declared.kind.QueryKind.{QueryKind}
use Rattle.sparql_lexer.specs.declared.kind.QueryKind.TheVariants as kinds
use Rattle.sparql_lexer.specs.declared.token.QueryToken.{QueryToken}
use Rattle.sparql_lexer.specs.declared.lexing.Next.{Next}
use Rattle.sparql_lexer.specs.declared.lexing.Next.TheVariants as nexts
use Rattle.sparql_lexer.specs.Rules.{rule_of}
use Rattle.sparql_lexer.specs.State.{HasNoPrefixedName}

-- a token of its kind and its two ends
abbrev pub token_of : QueryKind → ℕ → ℕ → QueryToken
token_of kind from to = record { kind = kind; from = from; to = to }

-- the characters from a place on are these tokens
abbrev pub LexesQuery : Bool → ℕ → List Symbol → List QueryToken → Type 0
LexesQuery comment at xs ts = Lexes rule_of token_of kinds.Bad kinds.End comment at xs ts

-- the bytes of the byte order mark, U+FEFF
abbrev pub byte_order_mark : List ℕ
byte_order_mark = 0xef ∷ 0xbb ∷ 0xbf ∷ []

-- how many bytes are skipped at the very beginning: those of one byte order mark
abbrev pub skipped : List ℕ → ℕ
skipped bytes = if starts_with nat_eq bytes byte_order_mark then 3 else 0

-- the text has these tokens
abbrev pub QueryTokens : List ℕ → List QueryToken → Type 0
QueryTokens bytes ts = LexesQuery false (skipped bytes) (symbols_of (drop (skipped bytes) bytes)) ts

-- the token's bytes are bytes of a text of this length
abbrev pub HasSpan : ℕ → QueryToken → Type 0
HasSpan len t = (t.from ≤ t.to) × (t.to ≤ len)

-- the token's bytes are UTF-8, as the standard library has it
abbrev pub IsPlain : List ℕ → QueryToken → Type 0
IsPlain bytes t = IsUtf8 (slice_range bytes t.from t.to)

-- Bad or End, behind which no token stands
abbrev pub is_last : QueryKind → Bool
is_last kinds.Bad = true
is_last kinds.End = true
is_last _ = false

-- the last of the tokens, and no other, is Bad or End
abbrev pub IsEnded : List QueryToken → Type 0
IsEnded ts = (front : List QueryToken) × (t : QueryToken) × (ts ≡ front ++ t ∷ []) × All (λ t. is_last t.kind ≡ false) front × (is_last t.kind ≡ true)

-- ---- one token after the other

-- what stands at a place, with the tokens from its end on, is the tokens from the place on
abbrev pub IsNext : List ℕ → ℕ → Next → Type 0
IsNext bytes at (nexts.Token t) = (ts : List QueryToken) → LexesQuery false t.to (symbols_of (drop t.to bytes)) ts → LexesQuery false at (symbols_of (drop at bytes)) (t ∷ ts)
IsNext bytes at (nexts.Last t) = LexesQuery false at (symbols_of (drop at bytes)) (t ∷ [])

-- it lies in the text; and behind one that others follow the text goes on further on
abbrev pub IsWithin : ℕ → ℕ → Next → Type 0
IsWithin at len (nexts.Token t) = (at < t.to) × HasSpan len t
IsWithin at len (nexts.Last t) = HasSpan len t

-- only the last token of a list is Bad or End
abbrev pub IsPlaced : Next → Type 0
IsPlaced (nexts.Token t) = is_last t.kind ≡ false
IsPlaced (nexts.Last t) = is_last t.kind ≡ true

-- its bytes are UTF-8
abbrev pub HasPlain : List ℕ → Next → Type 0
HasPlain bytes (nexts.Token t) = IsPlain bytes t
HasPlain bytes (nexts.Last t) = IsPlain bytes t

-- no name's colon comes behind it up to `no_colon_before`
abbrev pub HasNoPrefixedNameBehind : ℕ → List ℕ → Next → Type 0
HasNoPrefixedNameBehind no_colon_before bytes (nexts.Token t) = HasNoPrefixedName no_colon_before t.to (symbols_of (drop t.to bytes))
HasNoPrefixedNameBehind no_colon_before bytes (nexts.Last t) = Unit {0}

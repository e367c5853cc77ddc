-- The automaton that follows all rules at once.
use Rattle.std.specs.Prelude.{ℕ, zero, suc, List, Bool, true, false, Option, Some, None, if◌then◌else◌}
use Rattle.terminals.specs.declared.class.Class.{Class}
use Rattle.terminals.specs.declared.class.Class.TheVariants as classes
use Rattle.terminals.specs.declared.groups.Quote.{Quote}
use Rattle.terminals.specs.declared.groups.Quote.TheVariants as quotes
use Rattle.terminals.specs.Groups as group
use Rattle.terminals.specs.Utf8.{Symbol}
use Rattle.terminals.specs.Rules.{with_digit}
use Rattle.terminals.specs.Scan.{NoColonBefore}
use Rattle.terminals.specs.Terminals.{is_iri_code, is_scalar}
use Rattle.sparql_lexer.specs.Rules.{is_var}
use Rattle.sparql_lexer.specs.declared.kind.QueryKind.{QueryKind}
use Rattle.sparql_lexer.specs.declared.kind.QueryKind.TheVariants as kinds
use Rattle.sparql_lexer.specs.declared.state.State.{State}
use Rattle.sparql_lexer.specs.declared.state.State.TheVariants as at

-- the state, where the test holds
abbrev pub when : Bool → State → Option State
when b s = if b then Some s else None

-- what a first character begins
unfoldable pub begin : Class → Option State
begin (classes.Digit v) = Some at.Digits
begin classes.Dot = Some at.FirstDot
begin classes.Square = Some at.MarkDone
begin classes.Separator = Some at.MarkDone
begin classes.Brace = Some at.MarkDone
begin classes.Operator = Some at.MarkDone
begin classes.Plus = Some at.MarkDone
begin classes.Minus = Some at.MarkDone
begin classes.Equals = Some at.MarkDone
begin classes.Bang = Some at.FirstBang
begin classes.Greater = Some at.FirstGreater
begin classes.Bar = Some at.FirstBar
begin classes.Ampersand = Some at.FirstAmpersand
begin classes.Question = Some at.FirstQuestion
begin classes.Dollar = Some at.FirstDollar
begin classes.Caret = Some at.FirstCaret
begin classes.Colon = Some at.Colon
begin classes.Underscore = Some at.Underscore
begin classes.At = Some at.At
begin classes.Less = Some at.FirstLess
begin classes.Quote = Some (at.FirstQuote quotes.Double)
begin classes.Apostrophe = Some (at.FirstQuote quotes.Single)
begin classes.WideLetter = Some at.Prefix
begin (classes.HexLetter v) = Some at.Word
begin (classes.HexEscape v) = Some at.Word
begin classes.E = Some at.Word
begin classes.LowerU = Some at.Word
begin classes.UpperU = Some at.Word
begin classes.Escape = Some at.Word
begin classes.Letter = Some at.Word
begin _ = None

abbrev pub digits_step : Class → Option State
digits_step classes.Dot = Some at.DigitsPoint
digits_step classes.E = Some at.Exponent
digits_step x = when (group.is_digit x) at.Digits

abbrev pub fraction_step : Class → Option State
fraction_step classes.E = Some at.Exponent
fraction_step x = when (group.is_digit x) at.Fraction

abbrev pub exponent_step : Class → Option State
exponent_step classes.Plus = Some at.ExponentSign
exponent_step classes.Minus = Some at.ExponentSign
exponent_step x = when (group.is_digit x) at.ExponentDigits

unfoldable pub number_step : State → Class → Option State
number_step at.Digits x = digits_step x
number_step at.DigitsPoint x = fraction_step x
number_step at.Fraction x = fraction_step x
number_step at.Exponent x = exponent_step x
number_step at.ExponentSign x = when (group.is_digit x) at.ExponentDigits
number_step at.ExponentDigits x = when (group.is_digit x) at.ExponentDigits
number_step _ x = when (group.is_digit x) at.Fraction

unfoldable pub word_step : Class → Option State
word_step classes.Colon = Some at.Colon
word_step classes.Dot = Some at.PrefixDot
word_step classes.Minus = Some at.Prefix
word_step classes.WideMid = Some at.Prefix
word_step classes.WideLetter = Some at.Prefix
word_step x = when (group.is_word x) at.Word

unfoldable pub prefix_dot_step : Class → Option State
prefix_dot_step classes.Dot = Some at.PrefixDot
prefix_dot_step x = when (group.is_name x) at.Prefix

unfoldable pub prefix_step : Class → Option State
prefix_step classes.Colon = Some at.Colon
prefix_step x = prefix_dot_step x

unfoldable pub first_local_step : Class → Option State
first_local_step classes.Percent = Some at.FirstPercent
first_local_step classes.Backslash = Some at.FirstSlash
first_local_step x = when (group.is_local_first x) at.Local

unfoldable pub local_step : Class → Option State
local_step classes.Dot = Some at.LocalDot
local_step classes.Percent = Some at.LocalPercent
local_step classes.Backslash = Some at.LocalSlash
local_step x = when (group.is_local x) at.Local

abbrev pub underscore_step : Class → Option State
underscore_step classes.Colon = Some at.LabelColon
underscore_step _ = None

abbrev pub in_label_step : Class → Option State
in_label_step classes.Dot = Some at.LabelDot
in_label_step x = when (group.is_name x) at.Label

unfoldable pub label_step : State → Class → Option State
label_step at.Underscore x = underscore_step x
label_step at.LabelColon x = when (group.is_label_first x) at.Label
label_step _ x = in_label_step x

abbrev pub in_tag_step : Class → Option State
in_tag_step classes.Minus = Some at.TagMinus
in_tag_step x = when (group.is_letter x) at.Tag

abbrev pub in_part_step : Class → Option State
in_part_step classes.Minus = Some at.TagMinus
in_part_step x = when (group.is_letter_or_digit x) at.TagPart

unfoldable pub tag_step : State → Class → Option State
tag_step at.At x = when (group.is_letter x) at.Tag
tag_step at.Tag x = in_tag_step x
tag_step at.TagPart x = in_part_step x
tag_step _ x = when (group.is_letter_or_digit x) at.TagPart

unfoldable pub iri_step : Class → Option State
iri_step classes.Greater = Some at.IriDone
iri_step classes.Backslash = Some at.IriSlash
iri_step x = when (group.is_iri x) at.Iri

unfoldable pub less_step : Class → Option State
less_step classes.Equals = Some at.LessEquals
less_step x = iri_step x

abbrev pub line_text_step : Quote → Class → Option State
line_text_step quote classes.Backslash = Some (at.LineSlash quote)
line_text_step quote x = when (group.is_line_text quote x) (at.Line quote)

unfoldable pub line_step : Quote → Class → Option State
line_step quote x = if group.is_quote quote x then Some at.QuotedDone else line_text_step quote x

abbrev pub long_text_step : Quote → Class → Option State
long_text_step quote classes.Backslash = Some (at.LongSlash quote)
long_text_step quote x = when (group.is_text quote x) (at.Long quote)

-- `quoted` is where one more quote leads
unfoldable pub long_step : State → Quote → Class → Option State
long_step quoted quote x = if group.is_quote quote x then Some quoted else long_text_step quote x

abbrev pub iri_slash_step : Class → Option State
iri_slash_step classes.LowerU = Some (at.IriNumber 3 0)
iri_slash_step classes.UpperU = Some (at.IriNumber 7 0)
iri_slash_step x = None

abbrev pub line_slash_step : Quote → Class → Option State
line_slash_step quote classes.LowerU = Some (at.LineNumber quote 3 0)
line_slash_step quote classes.UpperU = Some (at.LineNumber quote 7 0)
line_slash_step quote x = when (group.is_string_escape x) (at.Line quote)

abbrev pub long_slash_step : Quote → Class → Option State
long_slash_step quote classes.LowerU = Some (at.LongNumber quote 3 0)
long_slash_step quote classes.UpperU = Some (at.LongNumber quote 7 0)
long_slash_step quote x = when (group.is_string_escape x) (at.Long quote)

unfoldable pub slash_step : State → Class → Option State
slash_step at.FirstSlash x = when (group.is_local_escape x) at.Local
slash_step at.LocalSlash x = when (group.is_local_escape x) at.Local
slash_step at.IriSlash x = iri_slash_step x
slash_step (at.LineSlash quote) x = line_slash_step quote x
slash_step (at.LongSlash quote) x = long_slash_step quote x
slash_step _ x = None

-- one more digit of a number, of which so many are wanted behind it
abbrev pub digit_step : (ℕ → ℕ → State) → State → (ℕ → Bool) → ℕ → ℕ → Option ℕ → Option State
digit_step more done fine left n None = None
digit_step more done fine zero n (Some v) = when (fine (with_digit n v)) done
digit_step more done fine (suc left) n (Some v) = Some (more left (with_digit n v))

unfoldable pub escape_step : State → Option ℕ → Option State
escape_step (at.IriNumber left n) o = digit_step at.IriNumber at.Iri is_iri_code left n o
escape_step (at.LineNumber quote left n) o = digit_step (at.LineNumber quote) (at.Line quote) is_scalar left n o
escape_step (at.LongNumber quote left n) o = digit_step (at.LongNumber quote) (at.Long quote) is_scalar left n o
escape_step _ o = None

-- the second character of a mark
unfoldable pub mark_step : State → Class → Option State
mark_step at.FirstBang classes.Equals = Some at.MarkDone
mark_step at.FirstGreater classes.Equals = Some at.MarkDone
mark_step at.FirstBar classes.Bar = Some at.MarkDone
mark_step at.FirstCaret classes.Caret = Some at.MarkDone
mark_step at.FirstAmpersand classes.Ampersand = Some at.MarkDone
mark_step _ _ = None

-- what one more character makes of a token that has been begun
abbrev pub stepped : State → Class → Option State
stepped at.Start x = begin x
stepped at.FirstBang x = mark_step at.FirstBang x
stepped at.FirstGreater x = mark_step at.FirstGreater x
stepped at.FirstBar x = mark_step at.FirstBar x
stepped at.FirstCaret x = mark_step at.FirstCaret x
stepped at.FirstAmpersand x = mark_step at.FirstAmpersand x
stepped at.FirstQuestion x = when (group.is_label_first x) at.Var
stepped at.FirstDollar x = when (group.is_label_first x) at.Var
stepped at.Var x = when (is_var x) at.Var
stepped at.FirstDot x = number_step at.FirstDot x
stepped at.Digits x = number_step at.Digits x
stepped at.DigitsPoint x = number_step at.DigitsPoint x
stepped at.Fraction x = number_step at.Fraction x
stepped at.Exponent x = number_step at.Exponent x
stepped at.ExponentSign x = number_step at.ExponentSign x
stepped at.ExponentDigits x = number_step at.ExponentDigits x
stepped at.Word x = word_step x
stepped at.Prefix x = prefix_step x
stepped at.PrefixDot x = prefix_dot_step x
stepped at.Colon x = first_local_step x
stepped at.Local x = local_step x
stepped at.LocalDot x = local_step x
stepped at.FirstPercent x = when (group.is_hex x) at.FirstHex
stepped at.LocalPercent x = when (group.is_hex x) at.LocalHex
stepped at.FirstHex x = when (group.is_hex x) at.Local
stepped at.LocalHex x = when (group.is_hex x) at.Local
stepped at.Underscore x = label_step at.Underscore x
stepped at.LabelColon x = label_step at.LabelColon x
stepped at.Label x = label_step at.Label x
stepped at.LabelDot x = label_step at.LabelDot x
stepped at.At x = tag_step at.At x
stepped at.Tag x = tag_step at.Tag x
stepped at.TagMinus x = tag_step at.TagMinus x
stepped at.TagPart x = tag_step at.TagPart x
stepped at.FirstLess x = less_step x
stepped at.LessEquals x = iri_step x
stepped at.Iri x = iri_step x
stepped at.FirstSlash x = slash_step at.FirstSlash x
stepped at.LocalSlash x = slash_step at.LocalSlash x
stepped at.IriSlash x = slash_step at.IriSlash x
stepped (at.LineSlash quote) x = slash_step (at.LineSlash quote) x
stepped (at.LongSlash quote) x = slash_step (at.LongSlash quote) x
stepped (at.IriNumber left n) x = escape_step (at.IriNumber left n) (group.hex_value x)
stepped (at.LineNumber quote left n) x = escape_step (at.LineNumber quote left n) (group.hex_value x)
stepped (at.LongNumber quote left n) x = escape_step (at.LongNumber quote left n) (group.hex_value x)
stepped (at.FirstQuote quote) x = if group.is_quote quote x then Some (at.SecondQuote quote) else line_step quote x
stepped (at.SecondQuote quote) x = when (group.is_quote quote x) (at.Long quote)
stepped (at.Line quote) x = line_step quote x
stepped (at.Long quote) x = long_step (at.LongOne quote) quote x
stepped (at.LongOne quote) x = long_step (at.LongTwo quote) quote x
stepped (at.LongTwo quote) x = long_step at.QuotedDone quote x
stepped _ x = None

-- the kind of the token that ends here
abbrev pub kind_of : State → Option QueryKind
kind_of at.FirstDot = Some kinds.Mark
kind_of at.MarkDone = Some kinds.Mark
kind_of at.FirstBang = Some kinds.Mark
kind_of at.FirstGreater = Some kinds.Mark
kind_of at.FirstBar = Some kinds.Mark
kind_of at.FirstCaret = Some kinds.Mark
kind_of at.FirstQuestion = Some kinds.Mark
kind_of at.FirstLess = Some kinds.Mark
kind_of at.LessEquals = Some kinds.Mark
kind_of at.Var = Some kinds.Var
kind_of at.Digits = Some kinds.Integer
kind_of at.Fraction = Some kinds.Decimal
kind_of at.ExponentDigits = Some kinds.Double
kind_of at.Word = Some kinds.Word
kind_of at.Colon = Some kinds.Name
kind_of at.Local = Some kinds.Name
kind_of at.Label = Some kinds.BlankLabel
kind_of at.Tag = Some kinds.Tag
kind_of at.TagPart = Some kinds.Tag
kind_of at.IriDone = Some kinds.IriRef
kind_of (at.SecondQuote quote) = Some kinds.Quoted
kind_of at.QuotedDone = Some kinds.Quoted
kind_of _ = None

-- a prefix that is no word: it is no token without a colon
abbrev pub is_waiting : State → Bool
is_waiting at.Prefix = true
is_waiting at.PrefixDot = true
is_waiting _ = false

-- before `no_colon_before` no colon comes that makes a name of a prefix which a dot has followed
abbrev pub HasNoPrefixedName : ℕ → ℕ → List Symbol → Type 0
HasNoPrefixedName no_colon_before place xs = NoColonBefore stepped kind_of at.PrefixDot no_colon_before place xs

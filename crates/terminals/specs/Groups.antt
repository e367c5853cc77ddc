-- Groups of classes, by the names that the grammars have for them.
use Rattle.std.specs.Prelude.{ℕ, Bool, true, false, ◌||◌, not, Option, Some, None}
use Rattle.terminals.specs.declared.class.Class.{Class}
use Rattle.terminals.specs.declared.class.Class.TheVariants as classes
use Rattle.terminals.specs.declared.groups.Quote.{Quote}
use Rattle.terminals.specs.declared.groups.Quote.TheVariants as quotes

-- the value of a hexadecimal digit: HEX
abbrev pub hex_value : Class → Option ℕ
hex_value (classes.Digit v) = Some v
hex_value (classes.HexLetter v) = Some v
hex_value (classes.HexEscape v) = Some v
hex_value classes.E = Some 14
hex_value _ = None

-- a hexadecimal digit: HEX
abbrev pub is_hex : Class → Bool
is_hex (classes.Digit v) = true
is_hex (classes.HexLetter v) = true
is_hex (classes.HexEscape v) = true
is_hex classes.E = true
is_hex _ = false

-- 0 to 9
abbrev pub is_digit : Class → Bool
is_digit (classes.Digit v) = true
is_digit _ = false

-- A to Z or a to z
abbrev pub is_letter : Class → Bool
is_letter (classes.HexLetter v) = true
is_letter (classes.HexEscape v) = true
is_letter classes.E = true
is_letter classes.LowerU = true
is_letter classes.UpperU = true
is_letter classes.Escape = true
is_letter classes.Letter = true
is_letter _ = false

-- a letter or a digit, as in the later parts of a language tag: LANGTAG
abbrev pub is_letter_or_digit : Class → Bool
is_letter_or_digit x = is_letter x || is_digit x

-- what a word goes on with
abbrev pub is_word : Class → Bool
is_word classes.Underscore = true
is_word x = is_letter_or_digit x

-- PN_CHARS_BASE
abbrev pub is_base : Class → Bool
is_base classes.WideLetter = true
is_base x = is_letter x

-- PN_CHARS
abbrev pub is_name : Class → Bool
is_name classes.Underscore = true
is_name classes.Minus = true
is_name (classes.Digit v) = true
is_name classes.WideMid = true
is_name x = is_base x

-- the first character of a label: PN_CHARS_U or a digit, as in BLANK_NODE_LABEL
abbrev pub is_label_first : Class → Bool
is_label_first classes.Underscore = true
is_label_first (classes.Digit v) = true
is_label_first x = is_base x

-- the first character of a local name where it is no escape: as in PN_LOCAL
abbrev pub is_local_first : Class → Bool
is_local_first classes.Colon = true
is_local_first x = is_label_first x

-- a later character of a local name where it is neither an escape nor a dot: as in PN_LOCAL
abbrev pub is_local : Class → Bool
is_local classes.Colon = true
is_local x = is_name x

-- what a backslash may stand before in a local name: PN_LOCAL_ESC
abbrev pub is_local_escape : Class → Bool
is_local_escape classes.Underscore = true
is_local_escape classes.Tilde = true
is_local_escape classes.Dot = true
is_local_escape classes.Minus = true
is_local_escape classes.Bang = true
is_local_escape classes.Dollar = true
is_local_escape classes.Ampersand = true
is_local_escape classes.Apostrophe = true
is_local_escape classes.Separator = true
is_local_escape classes.Operator = true
is_local_escape classes.Plus = true
is_local_escape classes.Equals = true
is_local_escape classes.Question = true
is_local_escape classes.Hash = true
is_local_escape classes.At = true
is_local_escape classes.Percent = true
is_local_escape _ = false

-- what stands for itself in an IRIREF
abbrev pub is_iri : Class → Bool
is_iri classes.Backslash = false
is_iri classes.Quote = false
is_iri classes.Less = false
is_iri classes.Greater = false
is_iri classes.Brace = false
is_iri classes.Bar = false
is_iri classes.Caret = false
is_iri classes.LineEnd = false
is_iri classes.Space = false
is_iri classes.Excluded = false
is_iri classes.Ill = false
is_iri _ = true

-- this quote
abbrev pub is_quote : Quote → Class → Bool
is_quote quotes.Double classes.Quote = true
is_quote quotes.Single classes.Apostrophe = true
is_quote quote _ = false

-- what stands for itself in a long string in these quotes
abbrev pub is_text : Quote → Class → Bool
is_text quote classes.Backslash = false
is_text quote classes.Ill = false
is_text quote x = not (is_quote quote x)

-- what stands for itself in a string of one line in these quotes
abbrev pub is_line_text : Quote → Class → Bool
is_line_text quote classes.LineEnd = false
is_line_text quote x = is_text quote x

-- what a backslash may stand before in a string: ECHAR
abbrev pub is_string_escape : Class → Bool
is_string_escape (classes.HexEscape v) = true
is_string_escape classes.Escape = true
is_string_escape classes.Quote = true
is_string_escape classes.Apostrophe = true
is_string_escape classes.Backslash = true
is_string_escape _ = false

-- + or -
abbrev pub is_sign : Class → Bool
is_sign classes.Plus = true
is_sign classes.Minus = true
is_sign _ = false

-- white space: WS
abbrev pub is_white : Class → Bool
is_white classes.LineEnd = true
is_white classes.Space = true
is_white _ = false

-- CR or LF, which ends a comment
abbrev pub is_line_end : Class → Bool
is_line_end classes.LineEnd = true
is_line_end _ = false

-- #, which begins a comment
abbrev pub is_hash : Class → Bool
is_hash classes.Hash = true
is_hash _ = false

-- a byte at which no character begins
abbrev pub is_ill : Class → Bool
is_ill classes.Ill = true
is_ill _ = false

-- E or e, which begins an exponent
abbrev pub is_exponent : Class → Bool
is_exponent classes.E = true
is_exponent _ = false

-- .
abbrev pub is_dot : Class → Bool
is_dot classes.Dot = true
is_dot _ = false

-- :
abbrev pub is_colon : Class → Bool
is_colon classes.Colon = true
is_colon _ = false

-- -
abbrev pub is_minus : Class → Bool
is_minus classes.Minus = true
is_minus _ = false

-- _
abbrev pub is_underscore : Class → Bool
is_underscore classes.Underscore = true
is_underscore _ = false

-- %
abbrev pub is_percent : Class → Bool
is_percent classes.Percent = true
is_percent _ = false

-- a backslash
abbrev pub is_backslash : Class → Bool
is_backslash classes.Backslash = true
is_backslash _ = false

-- <
abbrev pub is_less : Class → Bool
is_less classes.Less = true
is_less _ = false

-- >
abbrev pub is_greater : Class → Bool
is_greater classes.Greater = true
is_greater _ = false

-- @
abbrev pub is_at : Class → Bool
is_at classes.At = true
is_at _ = false

-- u
abbrev pub is_lower_u : Class → Bool
is_lower_u classes.LowerU = true
is_lower_u _ = false

-- U
abbrev pub is_upper_u : Class → Bool
is_upper_u classes.UpperU = true
is_upper_u _ = false

-- ^
abbrev pub is_caret : Class → Bool
is_caret classes.Caret = true
is_caret _ = false

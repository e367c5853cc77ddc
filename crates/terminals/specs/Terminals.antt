-- The terminals that Turtle and SPARQL share, after RDF 1.1 Turtle, section 6.5, and SPARQL 1.1, section 19.8.
use Rattle.std.specs.Prelude.{ℕ, Bool, ◌&&◌, not, nat_lt, nat_le}
use Rattle.terminals.specs.declared.class.Class.{Class}
use Rattle.terminals.specs.declared.groups.Quote.{Quote}
use Rattle.terminals.specs.declared.groups.Quote.TheVariants as quotes
use Rattle.terminals.specs.Class.{classified}
use Rattle.terminals.specs.Groups.{is_digit, is_hex, is_letter, is_letter_or_digit, is_word, is_base, is_name, is_label_first, is_local_first, is_local, is_local_escape, is_iri, is_quote, is_text, is_line_text, is_string_escape, is_sign, is_exponent, is_dot, is_colon, is_minus, is_underscore, is_percent, is_backslash, is_less, is_greater, is_at, is_lower_u, is_upper_u}
use Rattle.terminals.specs.Rules.{Rule, One, Then, Either, Many, Number, some, maybe}

-- ---- escapes by number: UCHAR

-- a code point that is no surrogate
abbrev pub is_scalar : ℕ → Bool
is_scalar n = nat_lt n 0x110000 && not (nat_le 0xd800 n && nat_lt n 0xe000)

-- a number that an escape in an IRIREF may give: that of a character which could stand there itself
abbrev pub is_iri_code : ℕ → Bool
is_iri_code n = is_scalar n && is_iri (classified n)

-- a backslash behind which stand u and four digits, or U and eight, of such a number
abbrev pub by_number : (ℕ → Bool) → Rule
by_number fine = Either (Then (One is_lower_u) (Number 4 fine 0)) (Then (One is_upper_u) (Number 8 fine 0))

-- ---- IRIREF

abbrev pub iri_escape : Rule
iri_escape = Then (One is_backslash) (by_number is_iri_code)

abbrev pub iri_ref : Rule
iri_ref = Then (One is_less) (Then (Many (Either (One is_iri) iri_escape)) (One is_greater))

-- ---- names: PNAME_NS and PNAME_LN

-- any number of such characters and dots, not ending in a dot
abbrev pub with_dots : (Class → Bool) → Rule
with_dots test = maybe (Then (Many (Either (One test) (One is_dot))) (One test))

-- PN_PREFIX
abbrev pub prefix : Rule
prefix = Then (One is_base) (with_dots is_name)

-- PERCENT
abbrev pub percent : Rule
percent = Then (One is_percent) (Then (One is_hex) (One is_hex))

-- PN_LOCAL_ESC
abbrev pub local_escape : Rule
local_escape = Then (One is_backslash) (One is_local_escape)

-- what may stand in a local name, of such characters, and no dot
abbrev pub local_part : (Class → Bool) → Rule
local_part test = Either (Either (One test) percent) local_escape

-- PN_LOCAL
abbrev pub local : Rule
local = Then (local_part is_local_first) (maybe (Then (Many (Either (local_part is_local) (One is_dot))) (local_part is_local)))

abbrev pub name : Rule
name = Then (maybe prefix) (Then (One is_colon) (maybe local))

-- ---- BLANK_NODE_LABEL

abbrev pub blank_label : Rule
blank_label = Then (One is_underscore) (Then (One is_colon) (Then (One is_label_first) (with_dots is_name)))

-- ---- LANGTAG

abbrev pub language_tag : Rule
language_tag = Then (One is_at) (Then (some (One is_letter)) (Many (Then (One is_minus) (some (One is_letter_or_digit)))))

-- ---- strings: STRING_LITERAL_QUOTE, STRING_LITERAL_SINGLE_QUOTE and the long ones

abbrev pub string_escape : Rule
string_escape = Then (One is_backslash) (Either (One is_string_escape) (by_number is_scalar))

-- behind its first quote, a string of one line
abbrev pub line_rest : Quote → Rule
line_rest quote = Then (Many (Either (One (is_line_text quote)) string_escape)) (One (is_quote quote))

-- one or two quotes, or none
abbrev pub few_quotes : Quote → Rule
few_quotes quote = maybe (Then (One (is_quote quote)) (maybe (One (is_quote quote))))

-- three quotes
abbrev pub three_quotes : Quote → Rule
three_quotes quote = Then (One (is_quote quote)) (Then (One (is_quote quote)) (One (is_quote quote)))

-- behind its first three quotes, a long string: one or two quotes stand before another character alone, and the first three together end it
abbrev pub long_rest : Quote → Rule
long_rest quote = Then (Many (Then (few_quotes quote) (Either (One (is_text quote)) string_escape))) (three_quotes quote)

-- a string in these quotes
abbrev pub string_in : Quote → Rule
string_in quote = Then (One (is_quote quote)) (Either (line_rest quote) (Then (One (is_quote quote)) (Then (One (is_quote quote)) (long_rest quote))))

abbrev pub quoted : Rule
quoted = Either (string_in quotes.Double) (string_in quotes.Single)

-- ---- numbers: INTEGER, DECIMAL and DOUBLE without their signs

abbrev pub integer : Rule
integer = some (One is_digit)

abbrev pub decimal : Rule
decimal = Then (Many (One is_digit)) (Then (One is_dot) (some (One is_digit)))

-- EXPONENT
abbrev pub exponent : Rule
exponent = Then (One is_exponent) (Then (maybe (One is_sign)) (some (One is_digit)))

abbrev pub double : Rule
double = Either (Then (some (One is_digit)) (Either (Then (One is_dot) (Then (Many (One is_digit)) exponent)) exponent))
    (Then (One is_dot) (Then (some (One is_digit)) exponent))

-- ---- words: keywords and `a`, `true` and `false`

abbrev pub word : Rule
word = Then (One is_letter) (Many (One is_word))

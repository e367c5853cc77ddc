-- The classes of characters, after the terminals of RDF 1.1 Turtle, section 6.5, and of SPARQL 1.1, section 19.8.
use Rattle.std.specs.Prelude.{ℕ, ◌+◌, ◌-◌, Bool, ◌&&◌, ◌||◌, nat_lt, nat_le, ◌==◌, if◌then◌else◌}
use Rattle.terminals.specs.declared.class.Class.{Class}
use Rattle.terminals.specs.declared.class.Class.TheVariants as classes

-- the number lies from the first to the second
abbrev pub in_range : ℕ → ℕ → ℕ → Bool
in_range first last c = nat_le first c && nat_le c last

-- the class of a code point below 128
unfoldable pub ascii_class : ℕ → Class
ascii_class c =
    if in_range 48 57 c then classes.Digit (c - 48)  -- 0 to 9
    else (if in_range 65 68 c || c == 70 then classes.HexLetter (c - 65 + 10)  -- A to D, F
    else (if c == 97 || c == 99 || c == 100 then classes.HexLetter (c - 97 + 10)  -- a c d
    else (if c == 98 || c == 102 then classes.HexEscape (c - 97 + 10)  -- b f
    else (if c == 69 || c == 101 then classes.E  -- E e
    else (if c == 117 then classes.LowerU  -- u
    else (if c == 85 then classes.UpperU  -- U
    else (if c == 110 || c == 114 || c == 116 then classes.Escape  -- n r t
    else (if in_range 65 90 c || in_range 97 122 c then classes.Letter  -- A to Z, a to z
    else (if c == 95 then classes.Underscore  -- _
    else (if c == 45 then classes.Minus  -- -
    else (if c == 43 then classes.Plus  -- +
    else (if c == 46 then classes.Dot  -- .
    else (if c == 58 then classes.Colon  -- :
    else (if c == 37 then classes.Percent  -- %
    else (if c == 92 then classes.Backslash  -- \
    else (if c == 34 then classes.Quote  -- "
    else (if c == 39 then classes.Apostrophe  -- '
    else (if c == 60 then classes.Less  -- <
    else (if c == 62 then classes.Greater  -- >
    else (if c == 64 then classes.At  -- @
    else (if c == 35 then classes.Hash  -- #
    else (if c == 94 then classes.Caret  -- ^
    else (if c == 91 || c == 93 then classes.Square  -- [ ]
    else (if c == 40 || c == 41 || c == 44 || c == 59 then classes.Separator  -- ( ) , ;
    else (if c == 123 || c == 125 then classes.Brace  -- { }
    else (if c == 42 || c == 47 then classes.Operator  -- * /
    else (if c == 33 then classes.Bang  -- !
    else (if c == 61 then classes.Equals  -- =
    else (if c == 38 then classes.Ampersand  -- &
    else (if c == 124 then classes.Bar  -- |
    else (if c == 63 then classes.Question  -- ?
    else (if c == 36 then classes.Dollar  -- $
    else (if c == 126 then classes.Tilde  -- ~
    else (if c == 13 || c == 10 then classes.LineEnd  -- CR LF
    else (if c == 32 || c == 9 then classes.Space  -- space, tab
    else (if in_range 0 31 c || c == 96 then classes.Excluded  -- controls, backquote
    else classes.Other))))))))))))))))))))))))))))))))))))

-- the class of a code point from 128 on: the ranges of PN_CHARS and of PN_CHARS_BASE
unfoldable pub wide_class : ℕ → Class
wide_class c =
    if c == 0xb7 || in_range 0x300 0x36f c || in_range 0x203f 0x2040 c then classes.WideMid
    else (if in_range 0xc0 0xd6 c || in_range 0xd8 0xf6 c || in_range 0xf8 0x2ff c || in_range 0x370 0x37d c
    || in_range 0x37f 0x1fff c || in_range 0x200c 0x200d c || in_range 0x2070 0x218f c || in_range 0x2c00 0x2fef c
    || in_range 0x3001 0xd7ff c || in_range 0xf900 0xfdcf c || in_range 0xfdf0 0xfffd c || in_range 0x10000 0xeffff c
    then classes.WideLetter
    else classes.Other)

-- the class of a code point
abbrev pub classified : ℕ → Class
classified c = if nat_lt c 128 then ascii_class c else wide_class c

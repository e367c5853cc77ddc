-- Rules for tokens: regular expressions over classes of characters, and what they allow.
use Rattle.std.specs.Prelude.{ℕ, zero, suc, ◌+◌, ◌*◌, List, [], ◌∷◌, Bool, true, false, ◌&&◌, ◌||◌, Option, Some, None, min, if◌then◌else◌}
use Rattle.terminals.specs.declared.class.Class.{Class}
use Rattle.terminals.specs.Groups.{hex_value}

-- a regular expression
pub data Rule : Type 0 where
  -- allows no text
  Never : Rule
  -- allows the empty text
  Nothing : Rule
  -- allows one character of such a class
  One : (test : Class → Bool) → Rule
  -- allows a text of the first and then one of the second
  Then : (r s : Rule) → Rule
  -- allows what one of the two allows
  Either : (r s : Rule) → Rule
  -- allows any number of texts of this rule
  Many : (r : Rule) → Rule
  -- allows so many hexadecimal digits that the number which they make, with the digits before them, is fine
  Number : (left : ℕ) → (fine : ℕ → Bool) → (before : ℕ) → Rule

-- one or more
abbrev pub some : Rule → Rule
some r = Then r (Many r)

-- one or none
abbrev pub maybe : Rule → Rule
maybe r = Either r Nothing

-- the rule allows the empty text
abbrev pub may_end : Rule → Bool
may_end Never = false
may_end Nothing = true
may_end (One test) = false
may_end (Then r s) = may_end r && may_end s
may_end (Either r s) = may_end r || may_end s
may_end (Many r) = true
may_end (Number zero fine n) = fine n
may_end (Number (suc left) fine n) = false

-- Then, made shorter where the first allows nothing or the empty text alone
abbrev pub both : Rule → Rule → Rule
both Never s = Never
both Nothing s = s
both r s = Then r s

-- Either, made shorter where one of the two allows nothing
abbrev pub either : Rule → Rule → Rule
either Never s = s
either r Never = r
either r s = Either r s

-- a number with one more hexadecimal digit; all numbers past the last code point count as one
abbrev pub with_digit : ℕ → ℕ → ℕ
with_digit n v = min (16 * n + v) 0x110000

-- what is left of a number behind a character with this value as a digit
abbrev pub number_after : Option ℕ → ℕ → (ℕ → Bool) → ℕ → Rule
number_after None left fine n = Never
number_after (Some v) zero fine n = if fine (with_digit n v) then Nothing else Never
number_after (Some v) (suc left) fine n = Number (suc left) fine (with_digit n v)

-- what may follow a first character (the derivative of the rule)
abbrev pub after : Class → Rule → Rule
after x Never = Never
after x Nothing = Never
after x (One test) = if test x then Nothing else Never
after x (Then r s) = if may_end r then either (both (after x r) s) (after x s) else both (after x r) s
after x (Either r s) = either (after x r) (after x s)
after x (Many r) = both (after x r) (Many r)
after x (Number zero fine n) = Never
after x (Number (suc left) fine n) = number_after (hex_value x) left fine n

-- the rule allows the text
abbrev pub allows : Rule → List Class → Bool
allows r [] = may_end r
allows r (x ∷ xs) = allows (after x r) xs

-- A gap between tokens: white space and comments.
use Rattle.std.specs.Prelude.{ℕ, suc, ◌+◌, List, [], ◌∷◌, Bool, true, false, not, ◌||◌, if◌then◌else◌}
use Rattle.terminals.specs.declared.class.Class.{Class}
use Rattle.terminals.specs.declared.gap.Gap.{Gap}
use Rattle.terminals.specs.declared.gap.Gap.TheVariants as gaps
use Rattle.terminals.specs.Utf8.{Symbol}
use Rattle.terminals.specs.Groups.{is_white, is_hash, is_line_end, is_ill}

-- the character belongs to the gap, inside a comment or outside
abbrev pub is_gap : Bool → Class → Bool
is_gap true x = not (is_ill x)
is_gap false x = is_hash x || is_white x

-- a comment goes on behind the character
abbrev pub goes_on : Bool → Class → Bool
goes_on true x = not (is_line_end x)
goes_on false x = is_hash x

-- what a character is that doesn't belong to the gap
abbrev pub gap_stop : Bool → ℕ → Gap
gap_stop true at = gaps.Ill at
gap_stop false at = gaps.Token at

-- where a gap ends
abbrev pub place_of : Gap → ℕ
place_of (gaps.Token at) = at
place_of (gaps.Ill at) = at
place_of (gaps.End at) = at

-- what ends the gap that the characters begin with, and whether they begin in a comment
unfoldable pub gap_of : Bool → ℕ → List Symbol → Gap
gap_of comment at [] = gaps.End at
gap_of comment at (x ∷ xs) = if is_gap comment x.class then gap_of (goes_on comment x.class) (at + suc x.extra) xs else gap_stop comment at

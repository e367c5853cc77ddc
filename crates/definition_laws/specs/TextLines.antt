-- Lines of an N-Triples text (RDF 1.1 N-Triples, section 2), as its line ends cut it.
use Rattle.std.specs.Prelude.{ℕ, ◌≡◌, ◌≢◌, ◌<◌, ◌≤◌, List, [], ◌∷◌, length, slice_index, true, false}
use Rattle.ntriples_reader.specs.declared.piece.Piece.TheVariants as pieces
use Rattle.ntriples_reader.specs.declared.piece.Item.{Item}
use Rattle.ntriples_reader.specs.Lines.{Line, Lines, first_line, is_line_end}
use Rattle.ntriples_reader.specs.Grammar.{place_by}

-- no CR or LF stands from the one place up to the other
abbrev pub HasNoLineEnd : List ℕ → ℕ → ℕ → Type 0
HasNoLineEnd bytes from to = (n : ℕ) → from ≤ n → n < to → is_line_end (slice_index bytes n) ≡ false

-- from each token that N-Triples takes up to the next one of its line, or to the line's end, there is none
abbrev pub IsOnOneLine : List ℕ → List Item → ℕ → Type 0
IsOnOneLine bytes [] end = Unit {0}
IsOnOneLine bytes (x ∷ xs) end = (x.from ≤ place_by xs end) × (x.piece ≢ pieces.Other → HasNoLineEnd bytes x.from (place_by xs end)) × IsOnOneLine bytes xs end

-- so it is on each of these lines
abbrev pub AreOnOneLine : List ℕ → List Line → Type 0
AreOnOneLine bytes [] = Unit {0}
AreOnOneLine bytes (l ∷ ls) = IsOnOneLine bytes l.items l.end × AreOnOneLine bytes ls

-- each line but the last ends at a CR or LF, which stands before the next line's first token and before its end; the last ends where the text does
abbrev pub AreCut : List ℕ → List Line → Type 0
AreCut bytes [] = ⊥
AreCut bytes (l ∷ []) = l.end ≡ length bytes
AreCut bytes (l ∷ m ∷ ls) = (l.end < length bytes) × (is_line_end (slice_index bytes l.end) ≡ true) × (l.end < place_by m.items m.end) × AreCut bytes (m ∷ ls)

-- all lines, the first before those behind it
abbrev pub all_lines : Lines → List Line
all_lines ls = first_line ls ∷ ls.more

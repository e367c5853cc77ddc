-- The removal of dot segments, RFC 3986, section 5.2.4, said by segments: the texts between the
-- slashes of a path.
use Rattle.std.specs.Prelude.{◌==◌, ◌||◌, ℕ, List, [], ◌∷◌, Bool, if◌then◌else◌, reverse, codes}
use Rattle.std.specs.List.{slice_split, join_with_byte}
use Rattle.std.specs.Str.{bytes_eq}
use Rattle.iri_core.specs.Reference.{slash}

abbrev pub Segment : Type 0
Segment = List ℕ

abbrev pub segments : List ℕ → List Segment
segments path = slice_split (λ b. b == slash) path

abbrev pub is_dot : Segment → Bool
is_dot s = bytes_eq s (codes ".")

abbrev pub is_dot_dot : Segment → Bool
is_dot_dot s = bytes_eq s (codes "..")

abbrev pub is_dots : Segment → Bool
is_dots s = is_dot s || is_dot_dot s

-- dot segments at the beginning go with their slashes, and of a path of them alone nothing is left
abbrev pub without_leading : List Segment → List Segment
without_leading [] = []
without_leading (s ∷ []) = if is_dots s then [] ∷ [] else s ∷ []
without_leading (s ∷ t ∷ more) = if is_dots s then without_leading (t ∷ more) else s ∷ t ∷ more

-- the segments kept, the latest first, without the latest; the first leaves an empty one
abbrev pub climbed : List Segment → List Segment
climbed [] = [] ∷ []
climbed (s ∷ []) = [] ∷ []
climbed (s ∷ t ∷ kept) = t ∷ kept

-- the segments kept after one more: two dots take the latest away
abbrev pub kept_after : List Segment → Segment → List Segment
kept_after kept s = if is_dot s then kept else if is_dot_dot s then climbed kept else s ∷ kept

-- after the last one: dots leave the slash in front of them
abbrev pub kept_at_end : List Segment → Segment → List Segment
kept_at_end kept s = if is_dots s then [] ∷ kept_after kept s else s ∷ kept

-- the segments kept after these
abbrev pub kept_after_all : List Segment → List Segment → List Segment
kept_after_all kept [] = kept
kept_after_all kept (s ∷ []) = kept_at_end kept s
kept_after_all kept (s ∷ t ∷ more) = kept_after_all (kept_after kept s) (t ∷ more)

-- the segments kept of a path that doesn't begin with a dot segment
abbrev pub kept_of : List Segment → List Segment
kept_of [] = []
kept_of (s ∷ more) = kept_after_all (s ∷ []) more

-- a path without its dot segments
unfoldable pub without_dots : List ℕ → List ℕ
without_dots path = join_with_byte slash (reverse (kept_of (without_leading (segments path))))

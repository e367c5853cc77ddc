-- Where the head of a request ends: at the first empty line behind its first line that isn't empty
-- (RFC 9112, sections 2.1 and 2.2). A line ends with LF, perhaps after a CR.
use Rattle.std.specs.Prelude.{ℕ, List, [], ◌∷◌, if◌then◌else◌, ◌==◌}
use Rattle.doc_server.specs.declared.head_end.Place.{Place}
use Rattle.doc_server.specs.declared.head_end.Place.TheVariants.{Blank, BlankCr, Front, AfterCr, Inside, Ended}

-- where the next byte stands behind this one; behind the head nothing counts
abbrev pub next_place : Place → ℕ → Place
next_place Blank b = if b == 10 then Blank else (if b == 13 then BlankCr else Inside)
next_place BlankCr b = if b == 10 then Blank else Inside
next_place Front b = if b == 10 then Ended else (if b == 13 then AfterCr else Inside)
next_place AfterCr b = if b == 10 then Ended else Inside
next_place Inside b = if b == 10 then Front else Inside
next_place Ended b = Ended

-- where the next byte stands behind some bytes
abbrev pub place_after : Place → List ℕ → Place
place_after p [] = p
place_after p (b ∷ bs) = place_after (next_place p b) bs

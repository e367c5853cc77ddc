-- Lines, and where the first empty one ends (RFC 9112, sections 2.1 and 2.2: a line ends with LF, perhaps after a CR).
use Rattle.std.specs.Prelude.{◌≡◌, ℕ, ◌+◌, ◌<◌, ◌≤◌, List, [], ◌∷◌, ◌++◌, length, Bool, true, false, ◌&&◌, not, if◌then◌else◌, ◌==◌, Option, Some, None, option_map}
use Rattle.http_message.specs.declared.lines.Place.{Place}
use Rattle.http_message.specs.declared.lines.Place.TheVariants.{Front, AfterCr, Inside}
use Rattle.http_message.specs.declared.lines.Scan.{Scan}
use Rattle.http_message.specs.declared.lines.Scan.TheVariants.{End, At}

-- where the byte after this one stands in its line
abbrev pub next_place : Place → ℕ → Place
next_place Front b = if b == 10 then Front else (if b == 13 then AfterCr else Inside)
next_place AfterCr b = if b == 10 then Front else Inside
next_place Inside b = if b == 10 then Front else Inside

-- the byte ends an empty line: LF, or CR LF, at the front of a line
abbrev pub ends_empty : Place → ℕ → Bool
ends_empty Front b = b == 10
ends_empty AfterCr b = b == 10
ends_empty Inside b = false

-- the number of bytes up to and including the first empty line
abbrev pub end_from : Place → List ℕ → Option ℕ
end_from p [] = None
end_from p (b ∷ bs) = if ends_empty p b then Some 1 else option_map (λ n. n + 1) (end_from (next_place p b) bs)

-- where the next byte stands after some bytes
abbrev pub place_after : Place → List ℕ → Place
place_after p [] = p
place_after p (b ∷ bs) = place_after (next_place p b) bs

-- what a scan of some bytes says of them
abbrev pub IsScan : Place → List ℕ → Scan → Type 0
IsScan p bytes (End k) = (end_from p bytes ≡ Some k) × (0 < k) × (k ≤ length bytes)
IsScan p bytes (At q) = (end_from p bytes ≡ None) × (place_after p bytes ≡ q)

-- what a scan finds, where so many bytes came before
abbrev pub scan_from : ℕ → Place → List ℕ → Scan
scan_from i p [] = At p
scan_from i p (b ∷ bs) = if ends_empty p b then End (i + 1) else scan_from (i + 1) (next_place p b) bs

-- a CR that came, or nothing
abbrev pub held : Bool → List ℕ
held true = 13 ∷ []
held false = []

-- the bytes after the empty lines at the front, where perhaps a CR came before
abbrev pub skip_from : Bool → List ℕ → List ℕ
skip_from cr [] = held cr
skip_from cr (b ∷ bs) =
    if b == 10 then skip_from false bs
    else (if b == 13 && not cr then skip_from true bs else held cr ++ b ∷ bs)

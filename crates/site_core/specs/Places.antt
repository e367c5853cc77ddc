-- The place of the first fault of a site file (docs/FORMATS.md, "Site file").
use Rattle.std.specs.Prelude.{◌≡◌, ◌⊎◌, ◌+◌, ◌<◌, ◌≤◌, ℕ, suc, List, [], ◌∷◌, ◌++◌, length, take, drop, slice_get, position, Bool, false, Option, Some, None, option_map, unwrap_or, Result, Ok, Err, if◌then◌else◌}
use Rattle.link_uri.specs.declared.heard.Reply.{Reply}
use Rattle.site_core.specs.Fields.{is_lf}
use Rattle.site_core.specs.Lines.{step}
use Rattle.site_core.specs.Text.{Entry, site_limit}
use Rattle.site_core.specs.declared.expected.Expected.{Expected}
use Rattle.site_core.specs.declared.expected.Expected.TheVariants.{First, Between}
use Rattle.site_core.specs.declared.expected.Step.{Step}
use Rattle.site_core.specs.declared.expected.Step.TheVariants.{Misfit, Next, Finished, Body}

-- what is found at one line: the answer, which is all entries or the place of the fault, or where to go on
pub data Look : Type 0 where
  Answer : (answer : Result (List Entry) ℕ) → Look
  On : (done : List Entry) → (expected : Expected) → (at : ℕ) → (rest : List ℕ) → Look

-- a byte of a line's end stands behind the first so many bytes
abbrev pub is_lf_at : List ℕ → ℕ → Bool
is_lf_at bytes n = unwrap_or (option_map is_lf (slice_get bytes n)) false

-- a body that is cut or isn't followed by LF: the place is its `body` line, at `line`
abbrev pub look_body : List Entry → ℕ → ℕ → List ℕ → List ℕ → Reply → ℕ → Look
look_body done line at rest link reply n = if is_lf_at rest n then On (done ++ (link, record reply { body = take n rest }) ∷ []) Between (at + suc n) (drop (suc n) rest) else Answer (Err line)

-- nothing follows the LF of `end`
abbrev pub look_behind : List Entry → ℕ → List ℕ → Look
look_behind done at [] = Answer (Ok done)
look_behind done at (byte ∷ rest) = Answer (Err at)

-- a line that isn't allowed there: the place is its first byte, at `line`
abbrev pub look_step : List Entry → ℕ → ℕ → List ℕ → Step → Look
look_step done line at rest Misfit = Answer (Err line)
look_step done line at rest (Next expected) = On done expected at rest
look_step done line at rest Finished = look_behind done at rest
look_step done line at rest (Body link reply n) = look_body done line at rest link reply n

-- a line that isn't ended by LF: the place is its first byte, and the file's length where no byte is left
abbrev pub look_line : List Entry → Expected → ℕ → List ℕ → Option ℕ → Look
look_line done expected line rest None = Answer (Err line)
look_line done expected line rest (Some n) = look_step done line (line + suc n) (drop (suc n) rest) (step done expected (take n rest))

abbrev pub look : List Entry → Expected → ℕ → List ℕ → Look
look done expected at rest = look_line done expected at rest (position is_lf rest)

-- the lines from a spot on, at this place and behind these entries, have this answer
pub data Reads : (done : List Entry) → (expected : Expected) → (at : ℕ) → (rest : List ℕ) → (answer : Result (List Entry) ℕ) → Type 0 where
  reads_end : {done : List Entry} {expected : Expected} {at : ℕ} {rest : List ℕ} {answer : Result (List Entry) ℕ} → look done expected at rest ≡ Answer answer → Reads done expected at rest answer
  reads_on : {done done' : List Entry} {expected spot' : Expected} {at at' : ℕ} {rest rest' : List ℕ} {answer : Result (List Entry) ℕ} → look done expected at rest ≡ On done' spot' at' rest' → Reads done' spot' at' rest' answer → Reads done expected at rest answer

-- the place of the first fault by the lines, whatever the length
abbrev pub FaultAt : List ℕ → ℕ → Type 0
FaultAt bytes at = Reads [] First 0 bytes (Err at)

-- the fault that the bytes show whatever follows them
abbrev pub Shows : List ℕ → ℕ → Type 0
Shows bytes at = (more : List ℕ) → FaultAt (bytes ++ more) at

-- the place in a file of which these are the first bytes, and more than may be
abbrev pub BeyondAt : List ℕ → ℕ → Type 0
BeyondAt front at = Shows front at ⊎ ((at ≡ site_limit) × ((place : ℕ) → Shows front place → ⊥))

-- the bytes are no site text, and this is the place of the first fault
abbrev pub SiteBad : List ℕ → ℕ → Type 0
SiteBad bytes at = ((length bytes ≤ site_limit) × FaultAt bytes at) ⊎ ((site_limit < length bytes) × BeyondAt (take site_limit bytes) at)

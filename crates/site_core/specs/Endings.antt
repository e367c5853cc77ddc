-- What reading the lines of some bytes finds, where further bytes may follow them.
use Rattle.std.specs.Prelude.{◌≡◌, ◌<◌, ◌≤◌, ℕ, suc, List, [], ◌++◌, length, take, drop, true, false, position, Some, None, Result, Ok, Err}
use Rattle.link_uri.specs.declared.heard.Reply.{Reply}
use Rattle.site_core.specs.Fields.{is_lf}
use Rattle.site_core.specs.Lines.{step}
use Rattle.site_core.specs.Places.{Answer, On, Reads, Shows, is_lf_at, look}
use Rattle.site_core.specs.Text.{Entry, is_site_from, site_limit}
use Rattle.site_core.specs.declared.reading.Body.{Body as Behind}
use Rattle.site_core.specs.declared.reading.Body.TheVariants as behind
use Rattle.site_core.specs.declared.reading.Ending.{Ending}
use Rattle.site_core.specs.declared.reading.Ending.TheVariants as ending
use Rattle.site_core.specs.declared.reading.Found.{Found}
use Rattle.site_core.specs.declared.reading.Found.TheVariants as found
use Rattle.site_core.specs.declared.expected.Expected.{Expected}
use Rattle.site_core.specs.declared.expected.Expected.TheVariants.{First}
use Rattle.site_core.specs.declared.expected.Step.TheVariants.{Body}

-- the rest has a whole `body` line at its beginning, and no more bytes than that says
pub record IsCutBody (done : List Entry) (expected : Expected) (rest : List ℕ) : Type 0 where
  pub line : ℕ
  pub link : List ℕ
  pub reply : Reply
  pub size : ℕ
  pub ends : position is_lf rest ≡ Some line
  pub body : step done expected (take line rest) ≡ Body link reply size
  pub short : length (drop (suc line) rest) ≤ size

-- what stands behind a `body` line of this size
abbrev pub HasBody : List ℕ → ℕ → Behind → Type 0
HasBody rest size (behind.Whole body) = (size < length rest) × (is_lf_at rest size ≡ true) × (body ≡ take size rest)
HasBody rest size behind.Misfit = (size < length rest) × (is_lf_at rest size ≡ false)
HasBody rest size behind.Short = length rest ≤ size

-- what is found at one line, and behind which entries
abbrev pub Finds : List Entry → Expected → ℕ → List ℕ → List Entry → Found → Type 0
Finds done expected at bytes new (found.Line next_spot next) = (at < next) × (next ≤ length bytes) × ((more : List ℕ) → look done expected at (drop at bytes ++ more) ≡ On new next_spot next (drop next bytes ++ more))
Finds done expected at bytes new found.Last = look done expected at (drop at bytes) ≡ Answer (Ok new)
Finds done expected at bytes new (found.Fault place) = (more : List ℕ) → look done expected at (drop at bytes ++ more) ≡ Answer (Err place)
Finds done expected at bytes new (found.Unended same) = (same ≡ expected) × (new ≡ done) × (position is_lf (drop at bytes) ≡ None)
Finds done expected at bytes new found.Cut = (new ≡ done) × IsCutBody done expected (drop at bytes)

-- whatever reads the rest reads the whole
abbrev pub LeadsTo : List ℕ → List Entry → Expected → ℕ → Type 0
LeadsTo bytes done expected at = (more : List ℕ) (answer : Result (List Entry) ℕ) → Reads done expected at (drop at bytes ++ more) answer → Reads [] First 0 (bytes ++ more) answer

-- where reading the bytes ends
abbrev pub EndsSo : List ℕ → Ending → Type 0
EndsSo bytes (ending.Whole entries) = Reads [] First 0 bytes (Ok entries.items)
EndsSo bytes (ending.Fault at) = Shows bytes at
EndsSo bytes (ending.Unended line) = (line.at ≤ length bytes) × LeadsTo bytes line.entries.items line.expected line.at × (position is_lf (drop line.at bytes) ≡ None) × (length bytes ≤ site_limit → is_site_from None line.entries.items ≡ true)
EndsSo bytes (ending.Cut at) = (at ≤ length bytes) × ((done : List Entry) × (expected : Expected) × LeadsTo bytes done expected at × IsCutBody done expected (drop at bytes))

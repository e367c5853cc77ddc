-- What the state of a body says of the bytes that are to come.
use Rattle.std.specs.Prelude.{◌≡◌, ℕ, ◌<◌, ◌≤◌, List, ◌++◌, length, take, Bool, true, false}
use Rattle.link_uri.specs.declared.heard.Reply.{Reply}
use Rattle.http_message.specs.declared.stages.Outcome.{Outcome}
use Rattle.http_message.specs.declared.stages.Outcome.TheVariants.{Whole, Malformed, TooLong}
use Rattle.http_message.specs.declared.stages.BodyStage.{BodyStage}
use Rattle.http_message.specs.declared.stages.BodyStage.TheVariants as stage
use Rattle.http_message.specs.Chunks.{BodyRead, whole_body, bad_body, long_body, chunked, in_data, after_data, after_cr, in_trailers, line_limit, trailer_limit}
use Rattle.http_message.specs.Body.{Progress, with_body, sized, until_end}
use Rattle.http_message.specs.LineStates.{lined}

-- a message whose final head has been read: what it says, and what has come of the body
pub record BodyState : Type 0 where
  pub limit : ℕ
  pub stage : BodyStage
  pub reply : Reply
  pub body : List ℕ

abbrev pub outcome_of : Outcome → List ℕ → BodyRead
outcome_of Whole body = whole_body body
outcome_of Malformed body = bad_body
outcome_of TooLong body = long_body

-- what the body comes to with more bytes
abbrev pub resume_at : BodyStage → ℕ → List ℕ → List ℕ → BodyRead
resume_at (stage.Sized left) limit body more = sized left body more
resume_at stage.UntilEnd limit body more = until_end limit body more
resume_at (stage.Line line seen) limit body more = lined limit line seen body more
resume_at (stage.Data left) limit body more = chunked limit (in_data left) body more
resume_at stage.AfterData limit body more = chunked limit after_data body more
resume_at stage.AfterCr limit body more = chunked limit after_cr body more
resume_at (stage.Trailers place seen) limit body more = chunked limit (in_trailers place seen) body more
resume_at (stage.Decided outcome) limit body more = outcome_of outcome body

-- what the message comes to with more bytes
abbrev pub progress_from : BodyState → List ℕ → Progress
progress_from s more = with_body s.reply (resume_at s.stage s.limit s.body more)

-- nothing more is read
abbrev pub is_decided : BodyStage → Bool
is_decided (stage.Decided outcome) = true
is_decided other = false

-- with any more bytes the old state after the piece comes to what the new one does
abbrev pub Continues : BodyState → List ℕ → BodyState → Type 0
Continues old piece new = (more : List ℕ) → progress_from old (piece ++ more) ≡ progress_from new more

-- the body has grown at its end alone, and what the head says is the same
pub record Grows (old new : BodyState) : Type 0 where
  pub limit : new.limit ≡ old.limit
  pub reply : new.reply ≡ old.reply
  pub longer : length old.body ≤ length new.body
  pub kept : take (length old.body) new.body ≡ old.body

-- n bytes of the piece were read
pub record Steps (old : BodyState) (piece : List ℕ) (n : ℕ) (new : BodyState) : Type 0 where
  pub some : 0 < n
  pub within : n ≤ length piece
  pub next : Continues old (take n piece) new
  pub grows : Grows old new

-- what holds of each state: one that is not decided can still become whole
abbrev pub IsOpen : BodyStage → ℕ → List ℕ → Type 0
IsOpen (stage.Sized left) limit body = 0 < left
IsOpen stage.UntilEnd limit body = length body ≤ limit
IsOpen (stage.Line line seen) limit body = seen < line_limit
IsOpen (stage.Data left) limit body = 0 < left
IsOpen stage.AfterData limit body = Unit {0}
IsOpen stage.AfterCr limit body = Unit {0}
IsOpen (stage.Trailers place seen) limit body = seen < trailer_limit
IsOpen (stage.Decided outcome) limit body = Unit {0}

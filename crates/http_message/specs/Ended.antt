-- What the end of the input gives.
use Rattle.std.specs.Prelude.{◌≡◌, true, Option, Some, None}
use Rattle.link_uri.specs.declared.heard.Heard.{Heard}
use Rattle.http_message.specs.declared.body.Ended.{Ended}
use Rattle.http_message.specs.declared.body.Ended.TheVariants.{Done, Cut}
use Rattle.http_message.specs.State.{BodyState, is_decided}

-- what is heard where the input ends, if anything
abbrev pub heard_at_end : Ended → Option Heard
heard_at_end (Done heard) = Some heard
heard_at_end Cut = None

-- once something is heard nothing more is read, and a cut changes nothing
abbrev pub IsBodyAfterEnd : BodyState → Ended → BodyState → Type 0
IsBodyAfterEnd old (Done heard) new = is_decided new.stage ≡ true
IsBodyAfterEnd old Cut new = new ≡ old

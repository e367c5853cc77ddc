-- What a call on a lane does to the counts of the wire, and to the lane's own.
use Rattle.std.specs.Prelude.{ℕ, ◌≡◌, ◌⊎◌, ◌+◌, ◌<◌, ◌≤◌, List, [], Option, Some, None, IfSome, Bool, true, false}
use Rattle.outer_ports.specs.Causes.{Rose, one_more}
use Rattle.outer_ports.specs.declared.host.Host.{Host}
use Rattle.outer_ports.specs.declared.wire_counts.WireCounts.{WireCounts}
use Rattle.outer_ports.specs.declared.wire.Opened.{Opened}
use Rattle.outer_ports.specs.declared.wire.Opened.TheVariants as O
use Rattle.outer_ports.specs.Wire.{Conn, Conns, response_of}
use Rattle.reachability.specs.declared.record.Cause.{Cause}
use Rattle.reachability.specs.declared.record.Cause.TheVariants as C
use Rattle.web_port.specs.declared.flight.Flight.{Flight}
use Rattle.web_port.specs.Lanes.{failed_once}
use Rattle.fetch_lane.specs.declared.lane.Lane.{Lane}
use Rattle.fetch_lane.specs.declared.lane.Stage.TheVariants.{Closed}
use Rattle.fetch_lane.specs.declared.went.Went.{Went}
use Rattle.fetch_lane.specs.declared.went.Went.TheVariants as W
use Rattle.fetch_lane.specs.Lanes.{IsOpen, IsBegun, IsReading, Keeps, silence, moved_of}
use Rattle.fetch_lane.specs.Responses.{IsHeardOver, IsCutOver}

-- the lane after a try that failed by this cause: its connection is closed
abbrev pub after_try : Lane → Cause → Lane
after_try lane cause = record lane { flight = failed_once lane.flight cause; stage = Closed }

-- how the wire's counts rose in a call that failed a try by this cause
abbrev pub Causes : Cause → WireCounts → WireCounts → Type 0
Causes C.Connect old new = Rose old.faults new.faults × (new ≡ record old { faults = new.faults; misses = one_more old.misses })
Causes C.Broken old new = Rose old.faults new.faults × (new ≡ record old { faults = new.faults; breaks = one_more old.breaks })
Causes C.Cut old new = (old.faults ≤ new.faults) × (new ≡ record old { faults = new.faults; ends = one_more old.ends })
Causes C.Silent old new = new ≡ record old { quiets = one_more old.quiets }

-- the wire's counts: bytes move without a rise, a failed try and a wait for nothing have their own, and the connection's end may end a message as it cuts one
abbrev pub CountsWent : Went → WireCounts → WireCounts → Type 0
CountsWent W.Moved old new = new ≡ old
CountsWent W.Quiet old new = new ≡ record old { quiets = one_more old.quiets }
CountsWent (W.Failed cause) old new = Causes cause old new
CountsWent (W.Heard heard) old new = (new ≡ old) ⊎ Causes C.Cut old new

-- the link's tries
abbrev pub flight_after : Went → Flight → Flight
flight_after W.Moved flight = flight
flight_after W.Quiet flight = flight
flight_after (W.Failed cause) flight = failed_once flight cause
flight_after (W.Heard heard) flight = flight

-- the count of silence: a byte ends a silence, and a try fails by silence only where that is full
abbrev pub SilentTry : Cause → ℕ → ℕ → Type 0
SilentTry C.Connect old new = new ≡ old
SilentTry C.Broken old new = new ≡ old
SilentTry C.Cut old new = new ≡ old
SilentTry C.Silent old new = (new ≡ old + 1) × (new ≡ silence)

abbrev pub SilentWent : Went → ℕ → ℕ → Type 0
SilentWent W.Moved old new = new ≡ 0
SilentWent W.Quiet old new = (new ≡ old + 1) × (new < silence)
SilentWent (W.Failed cause) old new = SilentTry cause old new
SilentWent (W.Heard heard) old new = new ≤ old

-- the bytes that went over the connection
abbrev pub MovedWent : Went → ℕ → ℕ → Type 0
MovedWent W.Moved old new = old < new
MovedWent W.Quiet old new = new ≡ old
MovedWent (W.Failed cause) old new = new ≡ 0
MovedWent (W.Heard heard) old new = new ≡ 0

-- the connection of this number is closed, and the lane has none
pub record IsClosed (n : ℕ) (conns : Conns) (lane : Lane) : Type 0 where
  pub closed : lane.stage ≡ Closed
  pub gone : conns n ≡ None

-- a lane goes on with all that came taken from the buffer, or its connection is closed
abbrev pub LaneWent : Went → Option (List Host) → ℕ → Conns → Lane → Type 0
LaneWent W.Moved hosts n conns lane = IsOpen hosts [] n conns lane
LaneWent W.Quiet hosts n conns lane = IsOpen hosts [] n conns lane
LaneWent (W.Failed cause) hosts n conns lane = IsClosed n conns lane
LaneWent (W.Heard heard) hosts n conns lane = IsClosed n conns lane

-- what is heard is what the response is read as; at a sure wire a try fails only where the response is cut
abbrev pub HeardWent : Went → Bool → Option (List Host) → Lane → Type 0
HeardWent W.Moved sure hosts lane = Unit {0}
HeardWent W.Quiet sure hosts lane = Unit {0}
HeardWent (W.Failed cause) sure hosts lane = sure ≡ true → IsCutOver lane.limit hosts lane.host lane.port lane.request
HeardWent (W.Heard heard) sure hosts lane = IsHeardOver lane.limit sure hosts lane.host lane.port lane.request heard

-- a call on a lane without memory: bytes that came may be held in the buffer, and all else is as it was
pub record IsHeld (hosts : Option (List Host)) (buffer : List ℕ) (n : ℕ) (old : Lane) (before now : Conns) (new : Lane) : Type 0 where
  pub goes : IsOpen hosts buffer n now new
  pub keeps : Keeps old new
  pub flight : new.flight ≡ old.flight
  pub silent : new.silent ≤ old.silent
  pub moved : moved_of before old ≤ moved_of now new

-- nothing came once more: the try goes on, or it fails by silence
abbrev pub IsHush : Went → Type 0
IsHush W.Moved = ⊥
IsHush W.Quiet = Unit {0}
IsHush (W.Failed cause) = cause ≡ C.Silent
IsHush (W.Heard heard) = ⊥

-- a try has begun on a connection, or none was opened and it failed
abbrev pub LaneOpened : Opened → Option (List Host) → Lane → Conns → Lane → Type 0
LaneOpened (O.Conn n) hosts old conns new = IsOpen hosts [] n conns new × (new.flight ≡ old.flight) × (new.silent ≡ 0) × Keeps old new
LaneOpened O.Failed hosts old conns new = new ≡ after_try old C.Connect

-- the connection of a lane has ended: all of the response was received, or the wire isn't sure
pub record IsEnded (sure : Bool) (hosts : Option (List Host)) (conns : Conns) (lane : Lane) (n : ℕ) : Type 0 where
  pub conn : Conn
  pub is_open : conns n ≡ Some conn
  pub fed : List ℕ
  pub begun : IsBegun hosts lane lane.request fed
  pub whole : IfSome hosts (λ hs. (response_of hs lane.host lane.port lane.request ≡ fed) ⊎ (sure ≡ false))
  pub reading : IsReading lane.limit lane.reading fed

-- the connection's end ends a message, or cuts it
abbrev pub FinishedBy : Went → Type 0
FinishedBy W.Moved = ⊥
FinishedBy W.Quiet = ⊥
FinishedBy (W.Failed cause) = cause ≡ C.Cut
FinishedBy (W.Heard heard) = Unit {0}

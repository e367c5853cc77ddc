-- The state of a lane: what went over its connection, and what its reading has of it.
use Rattle.std.specs.Prelude.{ℕ, ◌≡◌, ◌+◌, ◌<◌, ◌≤◌, List, [], ◌++◌, length, take, Option, Some, None, IfSome, Bool, false}
use Rattle.outer_ports.specs.declared.host.Host.{Host}
use Rattle.outer_ports.specs.Wire.{Conn, Conns, Begins, response_of}
use Rattle.http_message.specs.Reading.{most_undecided}
use Rattle.http_message.specs.Views.{ReadingState, HasRead, is_done}
use Rattle.fetch_lane.specs.declared.lane.Lane.{Lane}
use Rattle.fetch_lane.specs.declared.lane.Stage.{Stage}
use Rattle.fetch_lane.specs.declared.lane.Stage.TheVariants as S

-- so many counts of silence end a try
abbrev pub silence : ℕ
silence = 100

-- the connection that is open at a stage
abbrev pub conn_of : Stage → Option ℕ
conn_of S.Closed = None
conn_of (S.Sending n at) = Some n
conn_of (S.Receiving n held) = Some n

-- an open connection of a lane over which this went, and on which nothing failed or ended
abbrev pub conn_over : Lane → Bool → List ℕ → List ℕ → Conn
conn_over lane ready sent received = record {
  host = lane.host;
  port = lane.port;
  sent = sent;
  received = received;
  ready = ready;
  broken = false;
  ended = false;
}

-- where hosts are told, the bytes begin the response to what was sent
abbrev pub IsBegun : Option (List Host) → Lane → List ℕ → List ℕ → Type 0
IsBegun hosts lane sent received = IfSome hosts (λ hs. Begins received (response_of hs lane.host lane.port sent))

-- the reading under this limit is one to which these bytes have come, and goes on
pub record IsReading (limit : ℕ) (reading : ReadingState) (fed : List ℕ) : Type 0 where
  pub read : HasRead reading fed
  pub same_limit : reading.limit ≡ limit
  pub going : is_done reading ≡ false
  pub few : length fed ≤ most_undecided limit

-- so many bytes of the request are sent over the connection, and there are more
pub record IsSending (hosts : Option (List Host)) (conns : Conns) (lane : Lane) (ready : Bool) (n at : ℕ) : Type 0 where
  pub is_open : conns n ≡ Some (conn_over lane ready (take at lane.request) [])
  pub more : at < length lane.request
  pub reading : IsReading lane.limit lane.reading []

-- the request is sent; the reading has what was received, but for so many bytes in the buffer
pub record IsReceiving (hosts : Option (List Host)) (buffer : List ℕ) (conns : Conns) (lane : Lane) (ready : Bool) (n held : ℕ) : Type 0 where
  pub fed : List ℕ
  pub is_open : conns n ≡ Some (conn_over lane ready lane.request (fed ++ take held buffer))
  pub begun : IsBegun hosts lane lane.request (fed ++ take held buffer)
  pub within : held ≤ length buffer
  pub reading : IsReading lane.limit lane.reading fed

abbrev pub IsAt : Option (List Host) → List ℕ → Conns → Lane → Bool → Stage → Type 0
IsAt hosts buffer conns lane ready S.Closed = Unit {0}
IsAt hosts buffer conns lane ready (S.Sending n at) = IsSending hosts conns lane ready n at
IsAt hosts buffer conns lane ready (S.Receiving n held) = IsReceiving hosts buffer conns lane ready n held

-- the try of a lane goes on over the connection of this number
pub record IsOpen (hosts : Option (List Host)) (buffer : List ℕ) (n : ℕ) (conns : Conns) (lane : Lane) : Type 0 where
  pub is_open : conn_of lane.stage ≡ Some n
  pub calm : lane.silent < silence
  pub ready : Bool
  pub at : IsAt hosts buffer conns lane ready lane.stage

-- how many bytes went over a connection
abbrev pub moved_over : Option Conn → ℕ
moved_over None = 0
moved_over (Some conn) = length conn.sent + length conn.received

-- and over the one of a stage, if one is open
abbrev pub moved_at : Conns → Stage → ℕ
moved_at conns S.Closed = 0
moved_at conns (S.Sending n at) = moved_over (conns n)
moved_at conns (S.Receiving n held) = moved_over (conns n)

abbrev pub moved_of : Conns → Lane → ℕ
moved_of conns lane = moved_at conns lane.stage

-- what a lane asks, and of whom, and its link stay
pub record Keeps (old new : Lane) : Type 0 where
  pub number : new.flight.number ≡ old.flight.number
  pub link : new.flight.link ≡ old.flight.link
  pub host : new.host ≡ old.host
  pub port : new.port ≡ old.port
  pub request : new.request ≡ old.request
  pub limit : new.limit ≡ old.limit

-- A fetcher over a web in memory: which link a poll tries, and what comes of it, by its lists.
use Rattle.std.specs.Prelude.{ℕ, ◌==◌, ◌+◌, ◌%◌, List, [], ◌∷◌, Option, Some, None, Bool, true, false, if◌then◌else◌, nat_lt, bytes_eq, get_or, length}
use Rattle.link_uri.specs.declared.heard.Heard.{Heard}
use Rattle.link_uri.specs.declared.heard.Heard.TheVariants.{Reply, Malformed, TooLong, Never}
use Rattle.reachability.specs.declared.record.Cause.{Cause}
use Rattle.reachability.specs.declared.record.Cause.TheVariants.{Connect, Cut}
use Rattle.reachability.specs.declared.web.Web.{Web}
use Rattle.reachability.specs.Web.{Fetch, heard_at}
use Rattle.web_port.specs.declared.flight.Flight.{Flight}
use Rattle.web_port.specs.declared.fetcher.Got.TheVariants.{Heard as Told}
use Rattle.web_port.specs.declared.fetcher.Polled.{Polled}
use Rattle.web_port.specs.declared.fetcher.Polled.TheVariants.{Settled, Pending, Idle}
use Rattle.web_port.specs.Flights.{fresh}
use Rattle.web_port.specs.Port.{Port}
use Rattle.web_port.specs.Lanes.{Flying, answered, polled_failed, after_failed, tries_left, port_of}

-- links that fail to connect in so many first tries after each start
abbrev pub Fails : Type 0
Fails = List (List ℕ × ℕ)

-- the web, the number of lanes and of tries, the turns to come, the links that fail to connect,
-- and what is open
pub record Fetching : Type 0 where
  pub web : Web
  pub lanes : ℕ
  pub tries : ℕ
  pub turns : List ℕ
  pub fails : Fails
  pub flying : Flying

-- the turn of the next poll; after the last, the first lane's
abbrev pub first_turn : List ℕ → ℕ
first_turn [] = 0
first_turn (turn ∷ turns) = turn

-- the turns of the polls after it
abbrev pub later_turns : List ℕ → List ℕ
later_turns [] = []
later_turns (turn ∷ turns) = turns

-- in how many first tries the link fails to connect; of entries with equal texts the first counts
abbrev pub times_in : Fails → List ℕ → ℕ
times_in [] text = 0
times_in (entry ∷ entries) text = if bytes_eq entry.0 text then entry.1 else times_in entries text

abbrev pub is_never : Heard → Bool
is_never (Reply reply) = false
is_never Malformed = false
is_never TooLong = false
is_never Never = true

-- why the next try of the link fails, if it does: it is among the first, which fail to connect, or
-- the web never answers
abbrev pub failing : Fails → Heard → Flight → Option Cause
failing fails heard x = if nat_lt x.failed (times_in fails x.link) then Some Connect else (if is_never heard then Some Cut else None)

-- what comes of a try
abbrev pub polled_try : ℕ → Flight → Heard → Option Cause → Polled
polled_try tries x heard (Some cause) = polled_failed tries x cause
polled_try tries x heard None = Settled x.number (Told heard)

abbrev pub after_try : ℕ → Flying → ℕ → Flight → Option Cause → Flying
after_try tries o place x (Some cause) = after_failed tries o place x cause
after_try tries o place x None = answered o place

-- the open link at a place
abbrev pub flight_at : List Flight → ℕ → Flight
flight_at flights place = get_or flights place (fresh 0 [])

-- the lane whose turn it is, of the open ones
abbrev pub place_of : ℕ → List Flight → ℕ
place_of turn flights = turn % length flights

-- the turn at which no lane is tried
abbrev pub waiting_turn : ℕ
waiting_turn = 65535

-- what a poll answers at a turn
abbrev pub polled_lane : Web → ℕ → Fails → List Flight → ℕ → Polled
polled_lane web tries fails flights place =
    let x = flight_at flights place in
    polled_try tries x (heard_at web x.link) (failing fails (heard_at web x.link) x)

abbrev pub polled_turn : Web → ℕ → Fails → List Flight → ℕ → Polled
polled_turn web tries fails [] turn = Idle
polled_turn web tries fails (x ∷ xs) turn = if turn == waiting_turn then Pending else polled_lane web tries fails (x ∷ xs) (place_of turn (x ∷ xs))

-- what is open after it
abbrev pub after_lane : Web → ℕ → Fails → Flying → ℕ → Flying
after_lane web tries fails o place =
    let x = flight_at o.flights place in
    after_try tries o place x (failing fails (heard_at web x.link) x)

abbrev pub after_turn : Web → ℕ → Fails → Flying → List Flight → ℕ → Flying
after_turn web tries fails o [] turn = o
after_turn web tries fails o (x ∷ xs) turn = if turn == waiting_turn then o else after_lane web tries fails o (place_of turn (x ∷ xs))

-- what the next poll answers, and the state after it
abbrev pub next_polled : Fetching → Polled
next_polled f = polled_turn f.web f.tries f.fails f.flying.flights (first_turn f.turns)

abbrev pub after_poll : Fetching → Fetching
after_poll f = record f {
  turns = later_turns f.turns;
  flying = after_turn f.web f.tries f.fails f.flying f.flying.flights (first_turn f.turns);
}

-- with no link that fails to connect it is sure
abbrev pub is_empty_list : Fails → Bool
is_empty_list [] = true
is_empty_list (x ∷ xs) = false

abbrev pub fetch_of : Web → ℕ → Fails → Fetch
fetch_of web tries fails = record { web = Some (heard_at web); tries = tries; sure = is_empty_list fails }

-- a poll is Pending where a turn says so, or where a try fails
abbrev pub fetching_port : Fetching → Port
fetching_port f = port_of (length f.turns + tries_left f.tries f.flying.flights) f.flying

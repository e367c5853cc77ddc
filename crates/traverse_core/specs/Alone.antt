-- A run by one caller, with one fetcher: what the two share, and how a call takes them on.
use Rattle.std.specs.Prelude.{ℕ, ◌≡◌, ◌≢◌, ◌+◌, ◌-◌, ◌*◌, ◌<◌, ◌≤◌, List, ◌++◌, Option, Some, None, IsTrue, IfSome, true, length, drop}
use Rattle.std.specs.Option.{option_map}
use Rattle.rdf_terms.specs.Lists.{IsIn}
use Rattle.link_uri.specs.declared.link.Link.{Link}
use Rattle.link_uri.specs.declared.link.Scheme.{Scheme}
use Rattle.link_uri.specs.declared.link.Scheme.TheVariants.{Http, Https}
use Rattle.link_uri.specs.declared.heard.Heard.TheVariants.{Never}
use Rattle.link_queue.specs.declared.state.LinkState.{LinkState}
use Rattle.link_queue.specs.declared.state.LinkState.TheVariants.{InFlight}
use Rattle.link_queue.specs.Table.{link_at, state_at, flying}
use Rattle.outer_ports.specs.Causes.{RoseOnce}
use Rattle.reachability.specs.declared.outcome.Outcome.TheVariants.{Refused}
use Rattle.reachability.specs.declared.outcome.Why.TheVariants as why
use Rattle.reachability.specs.declared.record.Entry.{Entry}
use Rattle.reachability.specs.declared.record.Found.{Found}
use Rattle.reachability.specs.declared.record.Found.TheVariants.{Outcome as Told, Unreachable}
use Rattle.reachability.specs.Web.{Fetch}
use Rattle.reachability.specs.Reach.{Text}
use Rattle.doc_reader.specs.Outcome.{outcome}
use Rattle.web_port.specs.declared.flight.Flight.{Flight}
use Rattle.web_port.specs.declared.fetcher.Got.{Got}
use Rattle.web_port.specs.declared.fetcher.Got.TheVariants.{Heard as Answered, Unreachable as Lost}
use Rattle.web_port.specs.Port.{Port, PortKept, Starts}
use Rattle.result_writer.specs.Output.{IsClear}
use Rattle.traverse_core.specs.declared.steps.Halt.TheVariants as halt
use Rattle.traverse_core.specs.Run.{Run, rule_of}
use Rattle.traverse_core.specs.State.{State, is_running, IsDry}
use Rattle.traverse_core.specs.Steps.{settled}
use Rattle.traverse_core.specs.Totals.{Paid, tallies}

-- ---- what the caller owes, and what it gets

-- a fetcher for the run: it has the run's tries, the web that the run tells, and is sure where the run is
pub record Serves (run : Run) (fetch : Fetch) : Type 0 where
  pub tries : fetch.tries ≡ run.fetch.tries
  pub web : IfSome run.fetch.web (λ web. fetch.web ≡ Some web)
  pub sure : run.fetch.sure ≡ true → fetch.sure ≡ true

-- the entries that came since
abbrev pub entries_since : State → State → List Entry
entries_since s t = drop (length s.entries) t.entries

-- the run is over: it is closed, all is written, and it is not halted
pub record IsDone (s : State) : Type 0 where
  pub closed : IsTrue s.out.closed
  pub clear : IsClear s.out
  pub whole : s.halted ≡ None

-- entries only come, behind the others; a run that is halted by output stays so, and its sink is not
-- called again; the sink's faults rose by one where the run, which was not halted by output, is so
-- now, and else they are as they were
pub record RunsOn (s t : State) : Type 0 where
  pub entries : t.entries ≡ s.entries ++ entries_since s t
  pub later : s.out.faults ≤ t.out.faults
  pub stays : s.halted ≡ Some halt.Output → t.halted ≡ Some halt.Output
  pub failed : s.halted ≢ Some halt.Output → t.halted ≡ Some halt.Output → RoseOnce s.out.faults t.out.faults
  pub quiet : s.halted ≡ Some halt.Output → t.out.faults ≡ s.out.faults
  pub calm : t.halted ≢ Some halt.Output → t.out.faults ≡ s.out.faults

-- the links stand as they did; more may be drawn and written, and the run may be halted
pub record SameLinks (s t : State) : Type 0 where
  pub table : t.table ≡ s.table
  pub entries : t.entries ≡ s.entries
  pub log : t.log ≡ s.log
  pub closed : t.out.closed ≡ s.out.closed

-- ---- what a fetcher has open

-- the open link is the http link of its number, which is in flight
pub record IsOut (rows : List (Link × LinkState)) (x : Flight) : Type 0 where
  pub link : Link
  pub at : link_at rows x.number ≡ Some link
  pub state : state_at rows x.number ≡ Some InFlight
  pub text : link.text ≡ x.link
  pub plain : link.scheme ≡ Http

-- what is open is what is in flight
pub record IsShared (rows : List (Link × LinkState)) (flights : List Flight) : Type 0 where
  pub out : (x : Flight) → IsIn flights x → IsOut rows x
  pub counted : length flights ≡ flying rows

-- what was got for a link comes to; nothing for an answer that is none
abbrev pub found_of : Link → ℕ → Got → Option Found
found_of link body (Answered heard) = option_map Told (outcome link heard body)
found_of link body (Lost cause tries) = Some (Unreachable cause tries)

-- no answer is `Never`
abbrev pub IsAnswer : Got → Type 0
IsAnswer (Answered heard) = heard ≢ Never
IsAnswer (Lost cause tries) = Unit {0}

-- ---- turns

-- nothing is left to draw or to write, and the run goes on
pub record IsReady (s : State) : Type 0 where
  pub runs : IsTrue (is_running s)
  pub dry : IsDry s
  pub clear : IsClear s.out

-- between two turns
pub record InStep (run : Run) (fetch : Fetch) (lanes : ℕ) (s : State) (p : Port) : Type 0 where
  pub runs : IsTrue (is_running s)
  pub shared : IsShared s.table p.flights
  pub port : PortKept fetch lanes p.flights
  pub serves : Serves run fetch

-- so many turns are left at most: a turn begins a link or settles one
abbrev pub turns_left : Run → State → ℕ
turns_left run s = 2 * (run.limit - length s.entries) - flying s.table

-- a turn was taken: less is left, and the fetcher's counts went with the entries
pub record TakesTurn (run : Run) (s : State) (p : Port) (t : State) (q : Port) : Type 0 where
  pub less : turns_left run t < turns_left run s
  pub paid : Paid p (tallies s.entries) q (tallies t.entries)

-- an http link that was taken is started, and an https link is refused for its scheme
abbrev pub BeginsBy : Scheme → Run → ℕ → Text → State → Port → State → Port → Type 0
BeginsBy Http run number text s p t q = (t ≡ s) × Starts p number text q
BeginsBy Https run number text s p t q = (q ≡ p) × (t ≡ settled (rule_of run) s number text (Told (Refused why.Scheme)))

-- the link that landed was settled with what was got for it
pub record SettlesGot (run : Run) (number : ℕ) (link : Link) (body : ℕ) (got : Got) (s t : State) : Type 0 where
  pub found : Found
  pub of : found_of link body got ≡ Some found
  pub is : t ≡ settled (rule_of run) s number link.text found

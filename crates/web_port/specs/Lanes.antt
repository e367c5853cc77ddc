-- What a fetcher in memory has open, and the steps that it makes.
use Rattle.std.specs.Prelude.{ℕ, ◌+◌, ◌-◌, ◌<◌, List, [], ◌∷◌, ◌++◌, Some, if◌then◌else◌, nat_lt, set, remove}
use Rattle.rdf_terms.specs.Lists.{Apart}
use Rattle.reachability.specs.declared.record.Cause.{Cause}
use Rattle.web_port.specs.declared.flight.Flight.{Flight}
use Rattle.web_port.specs.declared.losses.Losses.{Losses}
use Rattle.web_port.specs.declared.fetcher.Got.TheVariants.{Unreachable}
use Rattle.web_port.specs.declared.fetcher.Polled.{Polled}
use Rattle.web_port.specs.declared.fetcher.Polled.TheVariants.{Settled, Pending}
use Rattle.web_port.specs.Counts.{no_losses, one_more}
use Rattle.web_port.specs.Flights.{numbers, fresh}
use Rattle.web_port.specs.Port.{Port}

-- the open links in the order of their starts, and the counts
pub record Flying : Type 0 where
  pub flights : List Flight
  pub faults : ℕ
  pub starts : ℕ
  pub lost : Losses

abbrev pub nothing_flying : Flying
nothing_flying = record { flights = []; faults = 0; starts = 0; lost = no_losses }

-- the link is open too
abbrev pub started : Flying → ℕ → List ℕ → Flying
started o number text = record o { flights = o.flights ++ fresh number text ∷ []; starts = o.starts + 1 }

-- the link after a failed try
abbrev pub failed_once : Flight → Cause → Flight
failed_once x cause = record x { failed = x.failed + 1; last = Some cause }

-- the link has a try left after one that failed
abbrev pub retried : Flying → ℕ → Flight → Cause → Flying
retried o place x cause = record o { flights = set o.flights place (failed_once x cause); faults = o.faults + 1 }

-- the link is given up
abbrev pub given_up : Flying → ℕ → Cause → Flying
given_up o place cause = record o { flights = remove o.flights place; faults = o.faults + 1; lost = one_more o.lost cause }

-- the link is answered
abbrev pub answered : Flying → ℕ → Flying
answered o place = record o { flights = remove o.flights place }

-- what a failed try gives
abbrev pub polled_failed : ℕ → Flight → Cause → Polled
polled_failed tries x cause = if nat_lt (x.failed + 1) tries then Pending else Settled x.number (Unreachable cause tries)

abbrev pub after_failed : ℕ → Flying → ℕ → Flight → Cause → Flying
after_failed tries o place x cause = if nat_lt (x.failed + 1) tries then retried o place x cause else given_up o place cause

-- each open link has a try left
abbrev pub AllBelow : ℕ → List Flight → Type 0
AllBelow tries [] = Unit {0}
AllBelow tries (x ∷ xs) = (x.failed < tries) × AllBelow tries xs

-- each open link has a try left, and a number of its own
pub record FlightsKept (tries : ℕ) (flights : List Flight) : Type 0 where
  pub below : AllBelow tries flights
  pub once : Apart (numbers flights)

-- how many tries the open links have left
abbrev pub tries_left : ℕ → List Flight → ℕ
tries_left tries [] = 0
tries_left tries (x ∷ xs) = (tries - x.failed) + tries_left tries xs

-- the state of a fetcher that has this open, and is Pending so many times at most
abbrev pub port_of : ℕ → Flying → Port
port_of left o = record { flights = o.flights; left = left; faults = o.faults; starts = o.starts; lost = o.lost }

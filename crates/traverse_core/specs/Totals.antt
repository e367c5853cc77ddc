-- What the counts of a fetcher say of the entries of a run.
use Rattle.std.specs.Prelude.{ℕ, ◌≡◌, ◌+◌, ◌≤◌, List, [], ◌∷◌, length}
use Rattle.reachability.specs.declared.outcome.Outcome.TheVariants.{Document, Moved, Refused}
use Rattle.reachability.specs.declared.outcome.Why.{Why}
use Rattle.reachability.specs.declared.outcome.Why.TheVariants as why
use Rattle.reachability.specs.declared.record.Cause.{Cause}
use Rattle.reachability.specs.declared.record.Entry.{Entry}
use Rattle.reachability.specs.declared.record.Found.{Found}
use Rattle.reachability.specs.declared.record.Found.TheVariants.{Outcome as Told, Unreachable}
use Rattle.web_port.specs.declared.flight.Flight.{Flight}
use Rattle.web_port.specs.Counts.{lost_in, is_cause}
use Rattle.web_port.specs.Flights.{failed_tries}
use Rattle.web_port.specs.Port.{Port}

-- what is counted: starts, failed tries, and the links that were lost by a cause
pub data Kind : Type 0 where
  Started : Kind
  Failed : Kind
  LostBy : Cause → Kind

-- how often a link that was refused was started: never for its scheme, and else once
abbrev pub starts_of : Why → ℕ
starts_of (why.Status status) = 1
starts_of why.Media = 1
starts_of why.Coding = 1
starts_of why.Length = 1
starts_of why.Head = 1
starts_of why.Location = 1
starts_of why.Scheme = 0
starts_of (why.Syntax at) = 1
starts_of (why.Deep at) = 1

-- what an entry counts for: one start, but for a link that was refused for its scheme; and for an
-- unreachable link its tries, which all failed, and one loss by its cause
abbrev pub weight_of : Kind → Found → ℕ
weight_of Started (Told (Document triples)) = 1
weight_of Started (Told (Moved link)) = 1
weight_of Started (Told (Refused why)) = starts_of why
weight_of Started (Unreachable cause tries) = 1
weight_of Failed (Told outcome) = 0
weight_of Failed (Unreachable cause tries) = tries
weight_of (LostBy c) (Told outcome) = 0
weight_of (LostBy c) (Unreachable cause tries) = is_cause cause c

-- what entries count for together
abbrev pub tally : Kind → List Entry → ℕ
tally k [] = 0
tally k (e ∷ es) = weight_of k e.found + tally k es

-- what the entries count for, by kind
abbrev pub tallies : List Entry → Kind → ℕ
tallies entries k = tally k entries

-- the count of a fetcher
abbrev pub count : Port → Kind → ℕ
count port Started = port.starts
count port Failed = port.faults
count port (LostBy c) = lost_in port.lost c

-- ---- over a whole run, at whose ends nothing is open
-- What is counted for is a function of the kind: the tallies of entries, or the share of one of
-- several callers.

-- as the port went from p to q, and what is counted for from u to v: each count of the fetcher rose
-- at least as that did, and its starts at most so and by its lanes
pub record Totals (lanes : ℕ) (p : Port) (u : Kind → ℕ) (q : Port) (v : Kind → ℕ) : Type 0 where
  pub least : (k : Kind) → count p k + v k ≤ count q k + u k
  pub most : q.starts + u Started ≤ p.starts + (v Started + lanes)

-- its starts rose exactly as that did
abbrev pub StartsExactly : Port → (Kind → ℕ) → Port → (Kind → ℕ) → Type 0
StartsExactly p u q v = q.starts + u Started ≡ p.starts + v Started

-- ---- between two moments of a run

-- what open links count for
abbrev pub held : Kind → List Flight → ℕ
held Started flights = length flights
held Failed flights = failed_tries flights
held (LostBy c) flights = 0

-- as the port went from p to q, and what is counted for from u to v: what was counted pays
-- for what is new in v and for what is open, and no start goes beyond that
pub record Paid (p : Port) (u : Kind → ℕ) (q : Port) (v : Kind → ℕ) : Type 0 where
  pub least : (k : Kind) → count p k + (v k + held k q.flights) ≤ count q k + (u k + held k p.flights)
  pub most : q.starts + (u Started + length p.flights) ≤ p.starts + (v Started + length q.flights)

-- the same where so many links as there are lanes may have been started and have no entry
pub record Covered (lanes : ℕ) (p : Port) (u : Kind → ℕ) (q : Port) (v : Kind → ℕ) : Type 0 where
  pub least : (k : Kind) → count p k + v k ≤ count q k + (u k + held k p.flights)
  pub most : q.starts + (u Started + length p.flights) ≤ p.starts + (v Started + lanes)

-- The state of a fetcher, and what its calls do to it.
use Rattle.std.specs.Prelude.{ℕ, ◌≡◌, ◌≢◌, ◌+◌, ◌<◌, ◌≤◌, List, [], ◌∷◌, ◌++◌, Option, Some, None, IfSome, true, length}
use Rattle.rdf_terms.specs.Lists.{IsIn, Apart}
use Rattle.link_uri.specs.declared.heard.Heard.TheVariants.{Never}
use Rattle.reachability.specs.declared.record.Cause.{Cause}
use Rattle.reachability.specs.Web.{Fetch, NeverHeard}
use Rattle.reachability.specs.Reach.{Text}
use Rattle.web_port.specs.declared.flight.Flight.{Flight}
use Rattle.web_port.specs.declared.losses.Losses.{Losses}
use Rattle.web_port.specs.declared.fetcher.Got.{Got}
use Rattle.web_port.specs.declared.fetcher.Got.TheVariants.{Heard as Told, Unreachable}
use Rattle.web_port.specs.declared.fetcher.Polled.{Polled}
use Rattle.web_port.specs.declared.fetcher.Polled.TheVariants.{Settled, Pending, Idle}
use Rattle.web_port.specs.Counts.{lost_in, no_losses, is_cause}
use Rattle.web_port.specs.Flights.{numbers, failed_tries, without, fresh}

-- what is open, how often a poll may still be Pending, and the counts
pub record Port : Type 0 where
  pub flights : List Flight
  pub left : ℕ
  pub faults : ℕ
  pub starts : ℕ
  pub lost : Losses

-- an open link before a poll, and after it; only a link that is never heard fails at a sure fetcher
pub record Goes (fetch : Fetch) (x y : Flight) : Type 0 where
  pub number : y.number ≡ x.number
  pub link : y.link ≡ x.link
  pub risen : x.failed ≤ y.failed
  pub same : y.failed ≡ x.failed → y.last ≡ x.last
  pub sure : fetch.sure ≡ true → x.failed < y.failed → NeverHeard fetch.web x.link

-- each open link goes on, and none is added
abbrev pub AllGo : Fetch → List Flight → List Flight → Type 0
AllGo fetch [] [] = Unit {0}
AllGo fetch [] (y ∷ ys) = ⊥
AllGo fetch (x ∷ xs) [] = ⊥
AllGo fetch (x ∷ xs) (y ∷ ys) = Goes fetch x y × AllGo fetch xs ys

-- what every poll does; `mid` is what is open at its end, before a link that landed is taken out
pub record Turns (fetch : Fetch) (before : Port) (mid : List Flight) (after : Port) : Type 0 where
  pub all : AllGo fetch before.flights mid
  pub charged : before.faults + failed_tries mid ≤ after.faults + failed_tries before.flights
  pub starts : after.starts ≡ before.starts

-- what may be got for an open link: what a told web answers, and no answer is Never; or nothing,
-- once its failed tries reached the tries, with the cause of the last
abbrev pub Gives : Fetch → Flight → Got → Type 0
Gives fetch x (Told heard) = (heard ≢ Never) × IfSome fetch.web (λ web. web x.link ≡ heard)
Gives fetch x (Unreachable cause tries) = (x.failed ≡ fetch.tries) × (tries ≡ fetch.tries) × (x.last ≡ Some cause)

-- how many links it adds to those that were lost by a cause
abbrev pub lost_by : Got → Cause → ℕ
lost_by (Told heard) c = 0
lost_by (Unreachable cause tries) c = is_cause cause c

-- an open link landed: it was settled with what was got for it, and is open no more
pub record Lands (fetch : Fetch) (before : Port) (number : ℕ) (got : Got) (after : Port) : Type 0 where
  pub flight : Flight
  pub mid : List Flight
  pub turns : Turns fetch before mid after
  pub flew : IsIn mid flight
  pub names : flight.number ≡ number
  pub rest : after.flights ≡ without number mid
  pub gives : Gives fetch flight got
  pub counts : (c : Cause) → lost_in after.lost c ≡ lost_in before.lost c + lost_by got c

-- nothing landed
pub record Waits (fetch : Fetch) (before after : Port) : Type 0 where
  pub turns : Turns fetch before after.flights after
  pub counts : (c : Cause) → lost_in after.lost c ≡ lost_in before.lost c

-- what a poll answers
abbrev pub Polls : Fetch → Port → Polled → Port → Type 0
Polls fetch before (Settled number got) after = Lands fetch before number got after
Polls fetch before Pending after = Waits fetch before after × (before.flights ≢ []) × (after.left < before.left)
Polls fetch before Idle after = Waits fetch before after × (before.flights ≡ [])

-- the link was started: it stands anywhere among those that were open, which keep their order
pub record Starts (before : Port) (number : ℕ) (text : Text) (after : Port) : Type 0 where
  pub ahead : List Flight
  pub behind : List Flight
  pub were : before.flights ≡ ahead ++ behind
  pub flights : after.flights ≡ ahead ++ fresh number text ∷ behind
  pub faults : after.faults ≡ before.faults
  pub starts : after.starts ≡ before.starts + 1
  pub lost : after.lost ≡ before.lost

-- nothing was started, and nothing happened
pub record Stays (before after : Port) : Type 0 where
  pub flights : after.flights ≡ before.flights
  pub left : after.left ≡ before.left
  pub faults : after.faults ≡ before.faults
  pub starts : after.starts ≡ before.starts
  pub lost : after.lost ≡ before.lost

-- nothing is open, and nothing happened
pub record IsNew (port : Port) : Type 0 where
  pub flights : port.flights ≡ []
  pub faults : port.faults ≡ 0
  pub starts : port.starts ≡ 0
  pub lost : port.lost ≡ no_losses

-- what a fetcher has open where each start had room and a number of its own; at a sure one only
-- links that are never heard have failed tries
pub record PortKept (fetch : Fetch) (lanes : ℕ) (flights : List Flight) : Type 0 where
  pub once : Apart (numbers flights)
  pub never : (x : Flight) → IsIn flights x → fetch.sure ≡ true → 0 < x.failed → NeverHeard fetch.web x.link
  pub within : length flights ≤ lanes

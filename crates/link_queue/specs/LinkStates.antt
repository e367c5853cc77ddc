-- What the states of a link mean for a count and a search.
use Rattle.std.specs.Prelude.{ℕ, Bool, true, false}
use Rattle.link_queue.specs.declared.state.LinkState.{LinkState}
use Rattle.link_queue.specs.declared.state.LinkState.TheVariants.{Queued, InFlight, Settled}

-- the link waits to be looked up
abbrev pub is_queued : LinkState → Bool
is_queued Queued = true
is_queued InFlight = false
is_queued Settled = false

-- the link is being looked up
abbrev pub is_flying : LinkState → Bool
is_flying Queued = false
is_flying InFlight = true
is_flying Settled = false

-- a link in flight counts once
abbrev pub weight : LinkState → ℕ
weight Queued = 0
weight InFlight = 1
weight Settled = 0

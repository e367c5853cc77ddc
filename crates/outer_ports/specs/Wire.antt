-- What a wire tells of its hosts, its open connections and its counts, and what its calls do.
use Rattle.std.specs.Prelude.{ℕ, ◌≡◌, ◌≢◌, ◌⊎◌, ◌==◌, ◌<◌, ◌≤◌, List, [], ◌∷◌, ◌++◌, length, take, Option, Some, None, IfSome, Bool, true, false, if◌then◌else◌, bytes_eq}
use Rattle.outer_ports.specs.Causes.{Rose, one_more}
use Rattle.outer_ports.specs.declared.host.Host.{Host}
use Rattle.outer_ports.specs.declared.wire_counts.WireCounts.{WireCounts}
use Rattle.outer_ports.specs.declared.wire.Opened.{Opened}
use Rattle.outer_ports.specs.declared.wire.Opened.TheVariants as O
use Rattle.outer_ports.specs.declared.wire.Sent.{Sent}
use Rattle.outer_ports.specs.declared.wire.Sent.TheVariants as S
use Rattle.outer_ports.specs.declared.wire.Received.{Received}
use Rattle.outer_ports.specs.declared.wire.Received.TheVariants as R
use Rattle.outer_ports.specs.declared.wire.Waited.{Waited}
use Rattle.outer_ports.specs.declared.wire.Waited.TheVariants as W

-- ---- hosts

-- the host answers this request
abbrev pub answers : Host → List ℕ → ℕ → List ℕ → Bool
answers h host port request = if bytes_eq h.host host then (if h.port == port then bytes_eq h.request request else false) else false

-- the response to a request: that of the first host of the list which answers it, and else nothing
abbrev pub response_of : List Host → List ℕ → ℕ → List ℕ → List ℕ
response_of [] host port request = []
response_of (h ∷ hs) host port request = if answers h host port request then h.response else response_of hs host port request

-- the one list is the beginning of the other
abbrev pub Begins : List ℕ → List ℕ → Type 0
Begins front whole = (rest : List ℕ) × (whole ≡ front ++ rest)

-- ---- open connections

-- an open connection: whether a wait named it since its opening and its last Again, whether a send
-- or a receive has failed on it, and whether it has answered its end
pub record Conn : Type 0 where
  pub host : List ℕ
  pub port : ℕ
  pub sent : List ℕ
  pub received : List ℕ
  pub ready : Bool
  pub broken : Bool
  pub ended : Bool

-- the open connections by their numbers
abbrev pub Conns : Type 0
Conns = ℕ → Option Conn

-- a connection that was just opened
abbrev pub fresh_conn : List ℕ → ℕ → Conn
fresh_conn host port = record { host = host; port = port; sent = []; received = []; ready = false; broken = false; ended = false }

-- the response to what was sent on a connection
abbrev pub response_to : List Host → Conn → List ℕ
response_to hosts c = response_of hosts c.host c.port c.sent

-- no open connection but this one changes
abbrev pub ChangesOnly : ℕ → Conns → Conns → Type 0
ChangesOnly n old new = (k : ℕ) → k ≢ n → new k ≡ old k

-- no open connection changes
abbrev pub ChangesNone : Conns → Conns → Type 0
ChangesNone old new = (k : ℕ) → new k ≡ old k

-- ---- what the calls do to connections

-- an opened connection has a number that no other open one has, and nothing went over it yet
abbrev pub Opens : Conns → List ℕ → ℕ → Opened → Conns → Type 0
Opens old host port (O.Conn n) new = (old n ≡ None) × (new n ≡ Some (fresh_conn host port)) × ChangesOnly n old new
Opens old host port O.Failed new = ChangesNone old new

-- what a send of a piece leaves of its connection
abbrev pub Sends : Conn → List ℕ → Sent → Option Conn → Type 0
Sends c piece (S.Took n) new = (0 < n) × (n ≤ length piece) × (new ≡ Some (record c { sent = c.sent ++ take n piece }))
Sends c piece S.Again new = new ≡ Some (record c { ready = false })
Sends c piece S.Failed new = new ≡ Some (record c { broken = true })
Sends c piece S.Memory new = new ≡ Some c

-- what a receive into a buffer leaves of its connection
abbrev pub Receives : Conn → List ℕ → Received → Option Conn → Type 0
Receives c buf (R.Took n) new = (0 < n) × (n ≤ length buf) × (new ≡ Some (record c { received = c.received ++ take n buf }))
Receives c buf R.End new = new ≡ Some (record c { ended = true })
Receives c buf R.Again new = new ≡ Some (record c { ready = false })
Receives c buf R.Failed new = new ≡ Some (record c { broken = true })

-- a wait names an open connection, which is ready then, or changes none
abbrev pub Waits : Conns → Waited → Conns → Type 0
Waits old (W.Ready n) new = ((c : Conn) × (old n ≡ Some c) × (new n ≡ Some (record c { ready = true }))) × ChangesOnly n old new
Waits old W.Quiet new = ChangesNone old new
Waits old W.Failed new = ChangesNone old new

-- ---- what is received

-- where hosts are told, what a connection received begins the response to what was sent on it
abbrev pub IsTold : Option (List Host) → Option Conn → Type 0
IsTold hosts conn = IfSome hosts (λ hs. IfSome conn (λ c. Begins c.received (response_to hs c)))

-- all of the response was received where the end is answered; before that only a fault ends it
abbrev pub IsWhole : Option (List Host) → Bool → Conn → ℕ → ℕ → Received → Type 0
IsWhole hosts sure c old new (R.Took n) = Unit {0}
IsWhole hosts sure c old new R.End = IfSome hosts (λ hs. (response_to hs c ≡ c.received) ⊎ ((sure ≡ false) × Rose old new))
IsWhole hosts sure c old new R.Again = Unit {0}
IsWhole hosts sure c old new R.Failed = Unit {0}

-- ---- counts

abbrev pub no_counts : WireCounts
no_counts = record { faults = 0; misses = 0; stalls = 0; breaks = 0; ends = 0; quiets = 0 }

-- one more, where it is the first
abbrev pub one_more_first : Bool → ℕ → ℕ
one_more_first before n = if before then n else one_more n

-- a count rises with its answers, and nowhere else; the faults rise where a call fails
abbrev pub CountsOpen : WireCounts → WireCounts → Opened → Type 0
CountsOpen old new (O.Conn n) = new ≡ old
CountsOpen old new O.Failed = Rose old.faults new.faults × (new ≡ record old { faults = new.faults; misses = one_more old.misses })

abbrev pub CountsSend : Conn → WireCounts → WireCounts → Sent → Type 0
CountsSend c old new (S.Took n) = new ≡ old
CountsSend c old new S.Again = new ≡ record old { quiets = one_more_first (if c.ready then false else true) old.quiets }
CountsSend c old new S.Failed = Rose old.faults new.faults × (new ≡ record old { faults = new.faults; breaks = one_more_first c.broken old.breaks })
CountsSend c old new S.Memory = new ≡ old

abbrev pub CountsReceive : Conn → WireCounts → WireCounts → Received → Type 0
CountsReceive c old new (R.Took n) = new ≡ old
CountsReceive c old new R.End = (old.faults ≤ new.faults) × (new ≡ record old { faults = new.faults; ends = one_more_first c.ended old.ends })
CountsReceive c old new R.Again = new ≡ record old { quiets = one_more_first (if c.ready then false else true) old.quiets }
CountsReceive c old new R.Failed = Rose old.faults new.faults × (new ≡ record old { faults = new.faults; breaks = one_more_first c.broken old.breaks })

abbrev pub CountsWait : WireCounts → WireCounts → Waited → Type 0
CountsWait old new (W.Ready n) = new ≡ old
CountsWait old new W.Quiet = new ≡ record old { quiets = one_more old.quiets }
CountsWait old new W.Failed = Rose old.faults new.faults × (new ≡ record old { faults = new.faults; stalls = one_more old.stalls })

-- ---- what a sure wire answers

abbrev pub SurelyOpens : Opened → Type 0
SurelyOpens (O.Conn n) = Unit {0}
SurelyOpens O.Failed = ⊥

abbrev pub SurelySends : Sent → Type 0
SurelySends (S.Took n) = Unit {0}
SurelySends S.Again = ⊥
SurelySends S.Failed = ⊥
SurelySends S.Memory = Unit {0}

abbrev pub SurelyReceives : Received → Type 0
SurelyReceives (R.Took n) = Unit {0}
SurelyReceives R.End = Unit {0}
SurelyReceives R.Again = ⊥
SurelyReceives R.Failed = ⊥

abbrev pub SurelyWaits : Waited → Type 0
SurelyWaits (W.Ready n) = Unit {0}
SurelyWaits W.Quiet = ⊥
SurelyWaits W.Failed = ⊥

-- What a wire in memory is seen as.
use Rattle.std.specs.Prelude.{ℕ, ◌≡◌, ◌≢◌, ◌+◌, ◌==◌, ◌≤◌, min, List, [], ◌∷◌, length, take, drop, Option, Some, None, option_map, Bool, true, false, if◌then◌else◌}
use Rattle.outer_ports.specs.declared.host.Host.{Host}
use Rattle.outer_ports.specs.declared.open_conns.OpenConn.{OpenConn}
use Rattle.outer_ports.specs.declared.wire_counts.WireCounts.{WireCounts}
use Rattle.outer_ports.specs.declared.wire.Opened.{Opened}
use Rattle.outer_ports.specs.declared.wire.Opened.TheVariants as O
use Rattle.outer_ports.specs.declared.wire.Sent.{Sent}
use Rattle.outer_ports.specs.declared.wire.Sent.TheVariants as S
use Rattle.outer_ports.specs.declared.wire.Received.{Received}
use Rattle.outer_ports.specs.declared.wire.Received.TheVariants as R
use Rattle.outer_ports.specs.declared.wire.Waited.{Waited}
use Rattle.outer_ports.specs.declared.wire.Waited.TheVariants as W
use Rattle.outer_ports.specs.Wire.{Conn, Conns, response_of}

-- the hosts, the most bytes a call, the numbers of the calls that fail, end early or are quiet, the
-- open connections, how many calls were made, and the counts
pub record Wiring : Type 0 where
  pub hosts : List Host
  pub piece : ℕ
  pub fail : List ℕ
  pub cut : List ℕ
  pub quiet : List ℕ
  pub conns : List OpenConn
  pub calls : ℕ
  pub counts : WireCounts

-- ---- open connections

-- a connection that was just opened, at a call of this number
abbrev pub fresh_open : ℕ → List ℕ → ℕ → ℕ → OpenConn
fresh_open number host port since = record { number = number; host = host; port = port; sent = []; taken = 0; since = since; ready = false; broken = false; ended = false }

-- the open connection of a number
abbrev pub open_in : List OpenConn → ℕ → Option OpenConn
open_in [] number = None
open_in (o ∷ os) number = if o.number == number then Some o else open_in os number

-- the open connection of the number becomes this one, and no other changes
pub record BecomesAt (old : List OpenConn) (number : ℕ) (o : OpenConn) (new : List OpenConn) : Type 0 where
  pub at : open_in new number ≡ Some o
  pub others : (k : ℕ) → k ≢ number → open_in new k ≡ open_in old k

-- the numbers rise, from the one on, and are below the other: so none stands twice
abbrev pub NumbersRise : ℕ → ℕ → List OpenConn → Type 0
NumbersRise from next [] = from ≤ next
NumbersRise from next (o ∷ os) = (from ≤ o.number) × NumbersRise (o.number + 1) next os

-- ---- who waits since when

-- the number of the call since which the open connection of a number waits: that which opened it or named it last
abbrev pub since_of : List OpenConn → ℕ → Option ℕ
since_of os number = option_map (λ o. o.since) (open_in os number)

-- the open connection of the number waits since this call then, and is open no more where none is said; each other is as it was
pub record WaitsSince (old : List OpenConn) (number : ℕ) (call : Option ℕ) (new : List OpenConn) : Type 0 where
  pub at : since_of new number ≡ call
  pub others : (k : ℕ) → k ≢ number → open_in new k ≡ open_in old k

-- an opened connection waits since the call that opened it
abbrev pub OpensSince : List OpenConn → ℕ → Opened → List OpenConn → Type 0
OpensSince old call (O.Conn n) new = WaitsSince old n (Some call) new
OpensSince old call O.Failed new = new ≡ old

-- a named connection waits anew, since the call that named it
abbrev pub NamesSince : List OpenConn → ℕ → Waited → List OpenConn → Type 0
NamesSince old call (W.Ready n) new = WaitsSince old n (Some call) new
NamesSince old call W.Quiet new = new ≡ old
NamesSince old call W.Failed new = new ≡ old

-- the connection of the number is open and waits longest: none that is open waits since an earlier call
pub record WaitsLongest (os : List OpenConn) (number : ℕ) : Type 0 where
  pub since : ℕ
  pub is_open : since_of os number ≡ Some since
  pub longest : (k since' : ℕ) → since_of os k ≡ Some since' → since ≤ since'

-- ---- as connections of a wire

-- as a connection of a wire: what was received is what was taken of the response
abbrev pub conn_of : List Host → OpenConn → Conn
conn_of hosts o = record {
  host = o.host;
  port = o.port;
  sent = o.sent;
  received = take o.taken (response_of hosts o.host o.port o.sent);
  ready = o.ready;
  broken = o.broken;
  ended = o.ended;
}

abbrev pub conns_of : List Host → List OpenConn → Conns
conns_of hosts os number = option_map (conn_of hosts) (open_in os number)

-- ---- lists of calls

abbrev pub is_empty_list : List ℕ → Bool
is_empty_list [] = true
is_empty_list (x ∷ xs) = false

-- a wire is sure where no call fails, ends early or is quiet
abbrev pub is_sure : List ℕ → List ℕ → List ℕ → Bool
is_sure fail cut quiet = if is_empty_list fail then (if is_empty_list cut then is_empty_list quiet else false) else false

-- ---- what the lists decide

-- a call leaves the hosts, the most bytes a call and the lists as they are
pub record SameLists (old new : Wiring) : Type 0 where
  pub hosts : new.hosts ≡ old.hosts
  pub piece : new.piece ≡ old.piece
  pub fail : new.fail ≡ old.fail
  pub cut : new.cut ≡ old.cut
  pub quiet : new.quiet ≡ old.quiet

-- a send that takes bytes takes so many, and none is to be tried again
abbrev pub SendsUpTo : ℕ → Sent → Type 0
SendsUpTo most (S.Took n) = n ≡ most
SendsUpTo most S.Again = ⊥
SendsUpTo most S.Failed = Unit {0}
SendsUpTo most S.Memory = Unit {0}

-- what is left of the response
abbrev pub left_of : List Host → OpenConn → List ℕ
left_of hosts o = drop o.taken (response_of hosts o.host o.port o.sent)

-- a receive that gives bytes gives so many of those that are left, and none is to be tried again
abbrev pub ReceivesUpTo : ℕ → List ℕ → List ℕ → Received → Type 0
ReceivesUpTo most left buf (R.Took n) = (n ≡ min most (min (length left) (length buf))) × (take n buf ≡ take n left)
ReceivesUpTo most left buf R.End = Unit {0}
ReceivesUpTo most left buf R.Again = ⊥
ReceivesUpTo most left buf R.Failed = Unit {0}

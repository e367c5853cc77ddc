-- A lane goes on over calls of its wire that are not its own.
use Rattle.std.proofs.Common.{◌≡◌, ℕ, List, [], sym, ap, ◌∙◌, subst, refl, true, Bool}
use Rattle.std.specs.Prelude.{Option, Some, IsSome}
use Rattle.outer_ports.specs.declared.host.Host.{Host}
use Rattle.outer_ports.specs.Wire.{Conn, Conns, ChangesNone}
use Rattle.fetch_lane.specs.declared.lane.Lane.{Lane}
use Rattle.fetch_lane.specs.declared.lane.Stage.{Stage}
use Rattle.fetch_lane.specs.declared.lane.Stage.TheVariants as S
use Rattle.fetch_lane.specs.Lanes.{IsAt, IsOpen, conn_of}
use Rattle.fetch_lane.proofs.ConnLemmas.{named_at, stays_at}

some_is : (o : Option Conn) (c : Conn) → o ≡ Some c → IsSome o
some_is o c e = subst (λ (p : Option Conn). IsSome p) (sym e) refl

open_at : (hosts : Option (List Host)) (conns : Conns) (lane : Lane) (ready : Bool) (n : ℕ) (stage : Stage) → conn_of stage ≡ Some n → IsAt hosts [] conns lane ready stage → IsSome (conns n)
open_at hosts conns lane ready n S.Closed e is = absurd (cc)
open_at hosts conns lane ready n (S.Sending k at) e is = let q : n ≡ k = cc in some_is (conns n) _ (ap conns q ∙ is.is_open)
open_at hosts conns lane ready n (S.Receiving k held) e is = let q : n ≡ k = cc in some_is (conns n) _ (ap conns q ∙ is.is_open)

pub open_some : (hosts : Option (List Host)) (n : ℕ) (conns : Conns) (lane : Lane) → IsOpen hosts [] n conns lane → IsSome (conns n)
open_some hosts n conns lane is = open_at hosts conns lane is.ready n lane.stage is.is_open is.at

pub named_ready : (hosts old : Option (List Host)) (n k : ℕ) (conns new : Conns) (lane : Lane) → hosts ≡ old → IsOpen old [] n conns lane → k ≡ n
    → ((c : Conn) × (conns k ≡ Some c) × (new k ≡ Some (record c { ready = true }))) → IsAt hosts [] new lane true lane.stage
named_ready hosts old n k conns new lane e is same named =
    subst (λ (h : Option (List Host)). IsAt h [] new lane true lane.stage) (sym e)
    (named_at old [] conns new lane is.ready n lane.stage is.is_open
    (subst (λ (j : ℕ). (c : Conn) × (conns j ≡ Some c) × (new j ≡ Some (record c { ready = true }))) same named) is.at)

pub quiet_open : (hosts old : Option (List Host)) (n : ℕ) (conns new : Conns) (lane : Lane) → hosts ≡ old → IsOpen old [] n conns lane → ChangesNone conns new → IsOpen hosts [] n new lane
quiet_open hosts old n conns new lane e is none = record {
  is_open = is.is_open;
  calm = is.calm;
  ready = is.ready;
  at = subst (λ (h : Option (List Host)). IsAt h [] new lane is.ready lane.stage) (sym e) (stays_at old [] conns new lane is.ready n lane.stage is.is_open (none n) is.at);
}

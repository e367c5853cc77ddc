-- Where the try of a lane stands after a call of its wire that is not its own. For callers that are generic over wires.
use Rattle.std.proofs.Common.{◌≡◌, ℕ, List, [], take, ◌++◌, sym, ap, ◌∙◌, subst, true, Bool}
use Rattle.std.specs.Prelude.{Option, Some}
use Rattle.outer_ports.specs.declared.host.Host.{Host}
use Rattle.outer_ports.specs.Wire.{Conn, Conns}
use Rattle.fetch_lane.specs.declared.lane.Lane.{Lane}
use Rattle.fetch_lane.specs.declared.lane.Stage.{Stage}
use Rattle.fetch_lane.specs.declared.lane.Stage.TheVariants as S
use Rattle.fetch_lane.specs.Lanes.{IsAt, conn_of, conn_over}

-- a connection that a wait names is as it was, and ready
named : (conns new : Conns) (lane : Lane) (ready : Bool) (k n : ℕ) (sent received : List ℕ) → k ≡ n → ((c : Conn) × (conns n ≡ Some c) × (new n ≡ Some (record c { ready = true })))
    → conns k ≡ Some (conn_over lane ready sent received) → new k ≡ Some (conn_over lane true sent received)
named conns new lane ready k n sent received q w is =
    let same : w.0 ≡ conn_over lane ready sent received = cc in
    subst (λ (c : Conn). new k ≡ Some (record c { ready = true })) same (subst (λ (j : ℕ). new j ≡ Some (record w.0 { ready = true })) (sym q) w.2)

pub named_at : (hosts : Option (List Host)) (buffer : List ℕ) (conns new : Conns) (lane : Lane) (ready : Bool) (n : ℕ) (stage : Stage) → conn_of stage ≡ Some n
    → ((c : Conn) × (conns n ≡ Some c) × (new n ≡ Some (record c { ready = true }))) → IsAt hosts buffer conns lane ready stage → IsAt hosts buffer new lane true stage
named_at hosts buffer conns new lane ready n S.Closed e w is = tt
named_at hosts buffer conns new lane ready n (S.Sending k at) e w is = record {
  is_open = let q : k ≡ n = cc in named conns new lane ready k n (take at lane.request) [] q w is.is_open;
  more = is.more;
  reading = is.reading;
}
named_at hosts buffer conns new lane ready n (S.Receiving k held) e w is = record {
  fed = is.fed;
  is_open = let q : k ≡ n = cc in named conns new lane ready k n lane.request (is.fed ++ take held buffer) q w is.is_open;
  begun = is.begun;
  within = is.within;
  reading = is.reading;
}

-- a connection that did not change
pub stays_at : (hosts : Option (List Host)) (buffer : List ℕ) (conns new : Conns) (lane : Lane) (ready : Bool) (n : ℕ) (stage : Stage) → conn_of stage ≡ Some n
    → new n ≡ conns n → IsAt hosts buffer conns lane ready stage → IsAt hosts buffer new lane ready stage
stays_at hosts buffer conns new lane ready n S.Closed e same is = tt
stays_at hosts buffer conns new lane ready n (S.Sending k at) e same is = record {
  is_open = let q : k ≡ n = cc in ap new q ∙ same ∙ ap conns (sym q) ∙ is.is_open;
  more = is.more;
  reading = is.reading;
}
stays_at hosts buffer conns new lane ready n (S.Receiving k held) e same is = record {
  fed = is.fed;
  is_open = let q : k ≡ n = cc in ap new q ∙ same ∙ ap conns (sym q) ∙ is.is_open;
  begun = is.begun;
  within = is.within;
  reading = is.reading;
}

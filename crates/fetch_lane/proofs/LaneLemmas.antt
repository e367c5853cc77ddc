-- How the state of a lane follows from what a call on its wire did.
use Rattle.std.proofs.Common.{◌≡◌, inl, inr, ℕ, ◌+◌, ◌<◌, ◌≤◌, List, [], ◌++◌, length, take, drop, refl, sym, ap, ◌∙◌, subst, true, false, Bool, arith, length-append, length-drop, ◌-◌}
use Rattle.std.specs.Prelude.{Option, Some, None, IfSome, Result, Ok, Err, OnErr}
use Rattle.std.proofs.lemmas.Bool.{cases_lt}
use Rattle.std.proofs.lemmas.List.{take_all, length-take-le, append-nil}
use Rattle.std.proofs.Math.Seq.{take-add}
use Rattle.outer_ports.specs.declared.host.Host.{Host}
use Rattle.outer_ports.specs.Wire.{Conn, Conns, Begins, IsTold, Receives, Sends, response_of}
use Rattle.fetch_lane.specs.declared.lane.Lane.{Lane}
use Rattle.fetch_lane.specs.declared.lane.Stage.{Stage}
use Rattle.fetch_lane.specs.declared.lane.Stage.TheVariants as S
use Rattle.fetch_lane.specs.Lanes.{IsAt, IsOpen, IsSending, IsReceiving, IsReading, IsBegun, conn_of, conn_over, moved_at, silence}
use Rattle.fetch_lane.specs.declared.went.Went.{Went}
use Rattle.fetch_lane.specs.declared.went.Went.TheVariants as W
use Rattle.fetch_lane.specs.Went.{CountsWent, Causes, FinishedBy, IsHeld}
use Rattle.outer_ports.specs.declared.wire.Sent.TheVariants as Sent
use Rattle.outer_ports.specs.declared.wire.Received.TheVariants as Received
use Rattle.outer_ports.specs.declared.wire_counts.WireCounts.{WireCounts}
use Rattle.http_message.specs.Reading.{most_undecided}
use Rattle.http_message.specs.Views.{ReadingState, GoesOn as Goes}
use Rattle.reachability.specs.declared.record.Cause.{Cause}
use Rattle.reachability.specs.declared.record.Cause.TheVariants as C

begun_nothing : (hosts : Option (List Host)) (lane : Lane) (sent : List ℕ) → IsBegun hosts lane sent []
begun_nothing None lane sent = tt
begun_nothing (Some hs) lane sent = (response_of hs lane.host lane.port sent, refl)

-- so many bytes of the request are sent, and nothing is received
pub sent_at : (hosts : Option (List Host)) (conns : Conns) (lane : Lane) (ready : Bool) (n at : ℕ) (stage : Stage)
    → (at < length lane.request → stage ≡ S.Sending n at) → (length lane.request ≤ at → stage ≡ S.Receiving n 0)
    → conns n ≡ Some (conn_over lane ready (take at lane.request) []) → IsReading lane.limit lane.reading [] → IsAt hosts [] conns lane ready stage
sent_at hosts conns lane ready n at stage more all is_open reading = elim (cases_lt at (length lane.request)) [
  | inl lt ↦ subst (λ s. IsAt hosts [] conns lane ready s) (sym (more lt)) (record { is_open = is_open; more = lt; reading = reading })
  | inr ge ↦ subst (λ s. IsAt hosts [] conns lane ready s) (sym (all ge)) (record {
    fed = [];
    is_open = subst (λ r. conns n ≡ Some (conn_over lane ready r [])) (take_all at lane.request ge) is_open;
    begun = begun_nothing hosts lane lane.request;
    within = omega arith;
    reading = reading;
  })
]

-- how much went over the connection of a stage
pub moved_is : (conns : Conns) (stage : Stage) (n : ℕ) (c : Conn) → conn_of stage ≡ Some n → conns n ≡ Some c → moved_at conns stage ≡ length c.sent + length c.received
moved_is conns S.Closed n c e is = absurd (cc)
moved_is conns (S.Sending k at) n c e is = let q : k ≡ n = cc in subst (λ j. moved_at conns (S.Sending j at) ≡ length c.sent + length c.received) (sym q) (rw is refl)
moved_is conns (S.Receiving k held) n c e is = let q : k ≡ n = cc in subst (λ j. moved_at conns (S.Receiving j held) ≡ length c.sent + length c.received) (sym q) (rw is refl)

-- ---- opening and sending

pub opened_lane : (hosts : Option (List Host)) (new : Conns) (lane : Lane) (n : ℕ) → conn_of lane.stage ≡ Some n
    → (0 < length lane.request → lane.stage ≡ S.Sending n 0) → (length lane.request ≤ 0 → lane.stage ≡ S.Receiving n 0)
    → new n ≡ Some (conn_over lane false [] []) → IsReading lane.limit lane.reading [] → lane.silent ≡ 0 → IsOpen hosts [] n new lane
opened_lane hosts new lane n conn more all is_open reading silent = record {
  is_open = conn;
  calm = omega arith;
  ready = false;
  at = sent_at hosts new lane false n 0 lane.stage more all is_open reading;
}

sent_bytes : (request piece : List ℕ) (at count : ℕ) → piece ≡ drop at request → take at request ++ take count piece ≡ take (at + count) request
sent_bytes request piece at count e = ap (λ p. take at request ++ take count p) e ∙ sym (take-add at count request)

pub sent_lane : (hosts : Option (List Host)) (new : Conns) (lane : Lane) (n at count : ℕ) (stage : Stage) (piece : List ℕ) → IsReading lane.limit lane.reading []
    → piece ≡ drop at lane.request → Sends (conn_over lane true (take at lane.request) []) piece (Sent.Took count) (new n) → conn_of stage ≡ Some n
    → (at + count < length lane.request → stage ≡ S.Sending n (at + count)) → (length lane.request ≤ at + count → stage ≡ S.Receiving n 0)
    → IsOpen hosts [] n new (record lane { silent = 0; stage = stage })
sent_lane hosts new lane n at count stage piece reading e sends conn more all = record {
  is_open = conn;
  calm = omega arith;
  ready = true;
  at = sent_at hosts new (record lane { silent = 0; stage = stage }) true n (at + count) stage more all
      (sends.2 ∙ ap (λ r. Some (conn_over lane true r [])) (sent_bytes lane.request piece at count e)) reading;
}

pub sent_moved : (conns new : Conns) (lane : Lane) (n at count : ℕ) (stage : Stage) (piece : List ℕ) → conn_of lane.stage ≡ Some n → at < length lane.request
    → conns n ≡ Some (conn_over lane true (take at lane.request) []) → Sends (conn_over lane true (take at lane.request) []) piece (Sent.Took count) (new n)
    → conn_of stage ≡ Some n → moved_at conns lane.stage < moved_at new stage
sent_moved conns new lane n at count stage piece was some is_open sends conn =
    let before = moved_is conns lane.stage n _ was is_open in
    let after = moved_is new stage n _ conn sends.2 in
    rw (before, after) (omega (arith, sends.0, sends.1, length-append (take at lane.request) (take count piece), length-take-le count piece sends.1))

-- ---- receiving

told_over : (hosts : Option (List Host)) (o : Option Conn) (c : Conn) → o ≡ Some c → IsTold hosts o → IfSome hosts (λ hs. Begins c.received (response_of hs c.host c.port c.sent))
told_over None o c e told = tt
told_over (Some hs) o c e told = subst (λ (p : Option Conn). IfSome p (λ d. Begins d.received (response_of hs d.host d.port d.sent))) e told

no_more : (bytes : List ℕ) → bytes ++ take 0 [] ≡ bytes
no_more bytes = append-nil bytes

-- bytes came into the buffer
pub took_lane : (hosts : Option (List Host)) (buffer : List ℕ) (conns new : Conns) (lane : Lane) (n count : ℕ) (is : IsReceiving hosts [] conns lane true n 0)
    → Receives (conn_over lane true lane.request (is.fed ++ take 0 [])) buffer (Received.Took count) (new n) → IsTold hosts (new n)
    → IsReceiving hosts buffer new (record lane { silent = 0; stage = S.Receiving n count }) true n count
took_lane hosts buffer conns new lane n count is took told =
    let same = ap (λ b. b ++ take count buffer) (no_more is.fed) in
    let now : new n ≡ Some (conn_over lane true lane.request (is.fed ++ take count buffer)) = took.2 ∙ ap (λ b. Some (conn_over lane true lane.request b)) same in
    record {
      fed = is.fed;
      is_open = now;
      begun = told_over hosts (new n) _ now told;
      within = took.1;
      reading = is.reading;
    }

-- what is held stays over calls that leave the connection
pub held_over : (hosts : Option (List Host)) (buffer : List ℕ) (conns new : Conns) (lane : Lane) (ready : Bool) (n held : ℕ) → new n ≡ conns n
    → IsReceiving hosts buffer conns lane ready n held → IsReceiving hosts buffer new lane ready n held
held_over hosts buffer conns new lane ready n held e is = record { fed = is.fed; is_open = e ∙ is.is_open; begun = is.begun; within = is.within; reading = is.reading }

pub took_moved : (conns new : Conns) (stage after : Stage) (c : Conn) (buffer : List ℕ) (n count : ℕ) → conn_of stage ≡ Some n → conns n ≡ Some c
    → Receives c buffer (Received.Took count) (new n) → conn_of after ≡ Some n → moved_at conns stage < moved_at new after
took_moved conns new stage after c buffer n count was is_open took conn =
    let before = moved_is conns stage n c was is_open in
    let now = moved_is new after n _ conn took.2 in
    rw (before, now) (omega (arith, took.0, took.1, length-append c.received (take count buffer), length-take-le count buffer took.1))

-- the reading took what was held, and goes on
pub more_lane : (hosts : Option (List Host)) (buffer : List ℕ) (conns : Conns) (lane : Lane) (ready : Bool) (n held : ℕ) (reading : ReadingState)
    (is : IsReceiving hosts buffer conns lane ready n held) → Goes lane.reading.limit (is.fed ++ take held buffer) reading → lane.silent < silence
    → IsOpen hosts [] n conns (record lane { stage = S.Receiving n 0; reading = reading })
more_lane hosts buffer conns lane ready n held reading is goes calm =
    let bytes = is.fed ++ take held buffer in
    record {
      is_open = refl;
      calm = calm;
      ready = ready;
      at = record {
        fed = bytes;
        is_open = is.is_open ∙ ap (λ b. Some (conn_over lane ready lane.request b)) (sym (no_more bytes));
        begun = subst (λ b. IsBegun hosts lane lane.request b) (sym (no_more bytes)) is.begun;
        within = omega arith;
        reading = record {
          read = goes.read;
          same_limit = goes.limit_is ∙ is.reading.same_limit;
          going = goes.going;
          few = subst (λ l. length bytes ≤ most_undecided l) is.reading.same_limit goes.few;
        };
      };
    }

-- the connection's end counts as it does where it cuts a message
pub end_counted : (went : Went) (old new : WireCounts) → FinishedBy went → Causes C.Cut old new → CountsWent went old new
end_counted W.Moved old new f e = absurd f
end_counted W.Quiet old new f e = absurd f
end_counted (W.Failed cause) old new f e = subst (λ (k : Cause). Causes k old new) (sym f) e
end_counted (W.Heard heard) old new f e = inr e

pub on_err_of : {A E : Type 0} {P : Type 0} (r : Result A E) → P → OnErr r P
on_err_of (Ok x) p = tt
on_err_of (Err e) p = p

-- bytes came into the buffer, and are held there
pub took_held : (hosts : Option (List Host)) (buffer : List ℕ) (conns new last : Conns) (lane : Lane) (n count : ℕ) (is : IsReceiving hosts [] conns lane true n 0)
    → Receives (conn_over lane true lane.request (is.fed ++ take 0 [])) buffer (Received.Took count) (new n) → IsTold hosts (new n) → last n ≡ new n
    → conn_of lane.stage ≡ Some n → IsHeld hosts buffer n lane conns last (record lane { silent = 0; stage = S.Receiving n count })
took_held hosts buffer conns new last lane n count is took told e was =
    let now : Lane = record lane { silent = 0; stage = S.Receiving n count } in
    let risen : moved_at conns lane.stage < moved_at last (S.Receiving n count) =
    took_moved conns last lane.stage (S.Receiving n count) _ buffer n count was is.is_open (took.0, took.1, e ∙ took.2) refl in
    record {
      goes = record {
        is_open = refl;
        calm = omega arith;
        ready = true;
        at = held_over hosts buffer new last now true n count e (took_lane hosts buffer conns new lane n count is took told);
      };
      keeps = record { number = refl; link = refl; host = refl; port = refl; request = refl; limit = refl };
      flight = refl;
      silent = omega arith;
      moved = omega (arith, risen);
    }

-- nothing was sent, for want of memory
pub unsent_held : (hosts : Option (List Host)) (buffer : List ℕ) (conns new : Conns) (lane : Lane) (n at : ℕ) → IsSending hosts conns lane true n at
    → lane.stage ≡ S.Sending n at → new n ≡ conns n → lane.silent < silence → IsHeld hosts buffer n lane conns new lane
unsent_held hosts buffer conns new lane n at is stage e calm =
    let own : conn_of lane.stage ≡ Some n = ap conn_of stage in
    let before = moved_is conns lane.stage n _ own is.is_open in
    let after = moved_is new lane.stage n _ own (e ∙ is.is_open) in
    record {
      goes = record {
        is_open = own;
        calm = calm;
        ready = true;
        at = subst (λ (s : Stage). IsAt hosts buffer new lane true s) (sym stage) (record { is_open = e ∙ is.is_open; more = is.more; reading = is.reading });
      };
      keeps = record { number = refl; link = refl; host = refl; port = refl; request = refl; limit = refl };
      flight = refl;
      silent = omega arith;
      moved = omega (arith, before, after);
    }

pub on_err_map : {A E : Type 0} {P Q R : Type 0} (r : Result A E) → OnErr r P → OnErr r Q → (P → Q → R) → OnErr r R
on_err_map (Ok x) p q f = tt
on_err_map (Err e) p q f = f p q

-- a slice from a place on
pub rest_is : (s r : List ℕ) (at : ℕ) → s ≡ r → take (length s - at) (drop at s) ≡ drop at r
rest_is s r at e = take_all (length s - at) (drop at s) (omega (arith, length-drop at s)) ∙ ap (drop at) e

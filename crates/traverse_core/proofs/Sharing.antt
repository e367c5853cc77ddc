-- What is open at a fetcher stays what is in flight in the table.
use Rattle.std.proofs.Common.{ℕ, zero, suc, ◌≡◌, ◌≢◌, ◌⊎◌, ◌+◌, ◌-◌, ◌*◌, ◌<◌, ◌≤◌, List, [], ◌∷◌, ◌++◌, Option, Some, None, Bool, true, false, refl, sym, ◌∙◌, ap, subst, inl, inr, arith, length, length-append, drop}
use Rattle.std.specs.Prelude.{if◌then◌else◌, ◌&&◌, nat_lt, IsTrue, IfSome, IsSome, map}
use Rattle.std.specs.Option.{option_map}
use Rattle.std.proofs.lemmas.Option.{same_Some}
use Rattle.std.proofs.lemmas.Bool.Decides.{nat_tests}
use Rattle.rdf_terms.specs.Lists.{IsIn, Apart}
use Rattle.rdf_terms.proofs.Members.{in_map, from_map}
use Rattle.link_uri.specs.declared.link.Link.{Link}
use Rattle.link_uri.specs.declared.link.Scheme.{Scheme}
use Rattle.link_uri.specs.declared.link.Scheme.TheVariants.{Http, Https}
use Rattle.link_uri.specs.declared.heard.Heard.{Heard}
use Rattle.link_uri.specs.declared.heard.Heard.TheVariants.{Never}
use Rattle.link_queue.specs.declared.state.LinkState.{LinkState}
use Rattle.link_queue.specs.declared.state.LinkState.TheVariants.{Queued, InFlight, Settled}
use Rattle.link_queue.specs.Table.{link_at, state_at, with_state, first_queued, flying, queue_all, marks}
use Rattle.link_queue.specs.LinkStates.{weight}
use Rattle.link_queue.proofs.Places.{state_within, state_with_state, link_there, flying_with_state, first_queued_state}
use Rattle.link_queue.proofs.Growth.{state_grown, link_grown, flying_marks}
use Rattle.reachability.specs.declared.outcome.Outcome.{Outcome}
use Rattle.reachability.specs.declared.outcome.Outcome.TheVariants.{Refused}
use Rattle.reachability.specs.declared.outcome.Why.TheVariants as why
use Rattle.reachability.specs.declared.record.Cause.{Cause}
use Rattle.reachability.specs.declared.record.Entry.{Entry}
use Rattle.reachability.specs.declared.record.Found.{Found}
use Rattle.reachability.specs.declared.record.Found.TheVariants.{Outcome as Told, Unreachable}
use Rattle.reachability.specs.Web.{ToldWeb, Fetch, NeverHeard}
use Rattle.reachability.specs.Reach.{Text}
use Rattle.doc_reader.specs.Outcome.{outcome, scheme_outcome}
use Rattle.web_port.specs.declared.flight.Flight.{Flight}
use Rattle.web_port.specs.declared.fetcher.Got.{Got}
use Rattle.web_port.specs.declared.fetcher.Got.TheVariants.{Heard as Answered, Unreachable as Lost}
use Rattle.web_port.specs.Flights.{flight_number, numbers, fresh, without}
use Rattle.web_port.specs.Port.{Port, Gives, Lands, Waits, Starts, Stays, PortKept}
use Rattle.web_port.proofs.PortLemmas.{go_from, go_length, in_without, kept_gone, kept_lands, from_start, length_starts, kept_starts}
use Rattle.traverse_core.specs.Run.{Run, rule_of, targets, TellsIfSure, MayFind, AgreesAt}
use Rattle.traverse_core.specs.State.{State, is_running, next_of, MayClose}
use Rattle.traverse_core.specs.Kept.{IsKept}
use Rattle.traverse_core.specs.Steps.{restated, settled}
use Rattle.traverse_core.specs.Totals.{Paid, Covered, Totals, StartsExactly, tallies}
use Rattle.traverse_core.specs.Alone.{Serves, IsOut, IsShared, found_of, IsAnswer, IsReady, InStep, TakesTurn, turns_left, RunsOn, entries_since, BeginsBy, SettlesGot}
use Rattle.traverse_core.proofs.Settling.{settled_flies}
use Rattle.traverse_core.proofs.Balance.{Pays, pays, counts_for, paid_entry, paid_refused, paid_starts, paid_exactly, covered_totals}
use Rattle.traverse_core.proofs.RunningOn.{on_calm, on_entry, running_whole}

-- ---- the table

pub state_at_other : (rows : List (Link × LinkState)) (n m : ℕ) (s : LinkState) → m ≢ n → state_at (with_state rows n s) m ≡ state_at rows m
state_at_other [] n m s d = refl
state_at_other (x ∷ xs) zero zero s d = absurd (d refl)
state_at_other (x ∷ xs) zero (suc m) s d = refl
state_at_other (x ∷ xs) (suc n) zero s d = refl
state_at_other (x ∷ xs) (suc n) (suc m) s d = state_at_other xs n m s (λ e. d (ap suc e))

pub link_at_with : (rows : List (Link × LinkState)) (n m : ℕ) (s : LinkState) → link_at (with_state rows n s) m ≡ link_at rows m
link_at_with [] n m s = refl
link_at_with (x ∷ xs) zero zero s = refl
link_at_with (x ∷ xs) zero (suc m) s = refl
link_at_with (x ∷ xs) (suc n) zero s = refl
link_at_with (x ∷ xs) (suc n) (suc m) s = link_at_with xs n m s

-- giving a link back leaves one less in flight
pub less_flies : (rows : List (Link × LinkState)) (n : ℕ) → state_at rows n ≡ Some InFlight → flying (with_state rows n Queued) < flying rows
less_flies rows n at = let c = flying_with_state rows n Queued InFlight at in omega arith

-- ---- taking

less : (a b : ℕ) → nat_lt a b ≡ true → a < b
less a b h = grind (arith, nat_tests)

and_some : (a b : Bool) (o : Option ℕ) (n : ℕ) → Some n ≡ (if a && b then o else None) → (a ≡ true) × (b ≡ true) × (o ≡ Some n)
and_some true true o n h = (refl, refl, sym h)
and_some true false o n h = absurd (cc)
and_some false b o n h = absurd (cc)

-- what holds where the run may take a link
pub record Takes (run : Run) (s : State) (n : ℕ) : Type 0 where
  pub runs : is_running s ≡ true
  pub room : flying s.table + length s.entries < run.limit
  pub queued : state_at s.table n ≡ Some Queued
  pub link : Link
  pub at : link_at s.table n ≡ Some link

pub takes : (run : Run) (s : State) (n : ℕ) → Some n ≡ next_of run s → Takes run s n
takes run s n h =
    let r = and_some (is_running s) (nat_lt (flying s.table + length s.entries) run.limit) (first_queued s.table) n h in
    let q = first_queued_state s.table n r.2 in
    let l = link_there s.table n Queued q in
    record { runs = r.0; room = less _ _ r.1; queued = q; link = l.0; at = l.1 }

pub taken_out : (run : Run) (s t : State) (n : ℕ) → Some n ≡ next_of run s → t ≡ restated s n InFlight → state_at t.table n ≡ Some InFlight
taken_out run s t n h e = ap (λ (x : State). state_at x.table n) e ∙ state_with_state s.table n Queued InFlight (takes run s n h).queued

-- a queued number is not open
pub fresh_number : (rows : List (Link × LinkState)) (flights : List Flight) (n : ℕ) → IsShared rows flights → state_at rows n ≡ Some Queued → IsIn (numbers flights) n → ⊥
fresh_number rows flights n k q h =
    let f = from_map flight_number flights n h in
    let o : state_at rows n ≡ Some InFlight = subst (λ (m : ℕ). state_at rows m ≡ Some InFlight) f.2 (k.out f.0 f.1).state in
    absurd (cc)

pub taken_fresh : (run : Run) (s : State) (flights : List Flight) (n : ℕ) → Some n ≡ next_of run s → IsShared s.table flights → IsIn (numbers flights) n → ⊥
taken_fresh run s flights n h k = fresh_number s.table flights n k (takes run s n h).queued

-- ---- a link that was started

-- an open link at a table that changed at another number
out_other : (rows : List (Link × LinkState)) (n : ℕ) (s : LinkState) (x : Flight) → x.number ≢ n → IsOut rows x → IsOut (with_state rows n s) x
out_other rows n s x d o = record { link = o.link; at = link_at_with rows n x.number s ∙ o.at; state = state_at_other rows n x.number s d ∙ o.state; text = o.text; plain = o.plain }

shared_started : (rows : List (Link × LinkState)) (p q : Port) (n : ℕ) (u : Link) → Starts p n u.text q → IsShared rows p.flights → state_at rows n ≡ Some Queued → link_at rows n ≡ Some u → u.scheme ≡ Http → IsShared (with_state rows n InFlight) q.flights
shared_started rows p q n u s k waits l plain =
    let count = flying_with_state rows n InFlight Queued waits in
    let c = k.counted in
    let len = length_starts p q n u.text s in
    record {
      out = λ x h.
          elim (from_start p q n u.text x s h) [
            | inl e ↦ subst (λ (y : Flight). IsOut (with_state rows n InFlight) y) e
                (record { link = u; at = link_at_with rows n n InFlight ∙ l; state = state_with_state rows n Queued InFlight waits; text = refl; plain = plain })
            | inr a ↦
                let d : x.number ≢ n = λ e. fresh_number rows p.flights n k waits (subst (λ (w : ℕ). IsIn (numbers p.flights) w) e (in_map flight_number p.flights x a)) in
                out_other rows n InFlight x d (k.out x a)
          ];
      counted = omega arith;
    }

-- what a turn leaves
pub record Turned (run : Run) (fetch : Fetch) (lanes : ℕ) (s : State) (p : Port) (t : State) (q : Port) : Type 0 where
  pub step : InStep run fetch lanes t q
  pub turn : TakesTurn run s p t q

started : (run : Run) (fetch : Fetch) (lanes : ℕ) (s : State) (p q : Port) (n : ℕ) (u : Link) → Takes run s n → InStep run fetch lanes s p → link_at s.table n ≡ Some u → u.scheme ≡ Http → length p.flights < lanes → Starts p n u.text q → Turned run fetch lanes s p (restated s n InFlight) q
started run fetch lanes s p q n u t k l plain room st =
    let count = flying_with_state s.table n InFlight Queued t.queued in
    let within = t.room in
    record {
      step = record {
        runs = k.runs;
        shared = shared_started s.table p q n u st k.shared t.queued l plain;
        port = kept_starts fetch lanes p q n u.text st (fresh_number s.table p.flights n k.shared t.queued) room k.port;
        serves = k.serves;
      };
      turn = record { less = omega arith; paid = paid_starts p q (tallies s.entries) n u.text st };
    }

-- ---- a link that was refused for its scheme

-- an open link at a table that gained links
out_grown : (rows : List (Link × LinkState)) (us : List Link) (x : Flight) → IsOut rows x → IsOut (queue_all rows us) x
out_grown rows us x o = record { link = o.link; at = link_grown rows us x.number o.link o.at; state = state_grown rows us x.number InFlight o.state; text = o.text; plain = o.plain }

shared_refused : (rows : List (Link × LinkState)) (flights : List Flight) (n : ℕ) → IsShared rows flights → state_at rows n ≡ Some Queued → IsShared (with_state (with_state rows n InFlight) n Settled) flights
shared_refused rows flights n k q =
    let first = with_state rows n InFlight in
    let a = flying_with_state rows n InFlight Queued q in
    let b = flying_with_state first n Settled InFlight (state_with_state rows n Queued InFlight q) in
    let c = k.counted in
    record {
      out = λ x h.
          let d : x.number ≢ n = λ e. fresh_number rows flights n k q (subst (λ (w : ℕ). IsIn (numbers flights) w) e (in_map flight_number flights x h)) in
          out_other first n Settled x d (out_other rows n InFlight x d (k.out x h));
      counted = omega arith;
    }

refused : (run : Run) (fetch : Fetch) (lanes : ℕ) (s : State) (p : Port) (n : ℕ) (text : Text) → Takes run s n → InStep run fetch lanes s p → Turned run fetch lanes s p (settled (rule_of run) (restated s n InFlight) n text (Told (Refused why.Scheme))) p
refused run fetch lanes s p n text t k =
    let first = with_state s.table n InFlight in
    let a = flying_with_state s.table n InFlight Queued t.queued in
    let b = flying_with_state first n Settled InFlight (state_with_state s.table n Queued InFlight t.queued) in
    let within = t.room in
    let len = length-append s.entries (record { link = text; found = Told (Refused why.Scheme) } ∷ []) in
    record {
      step = record { runs = k.runs; shared = shared_refused s.table p.flights n k.shared t.queued; port = k.port; serves = k.serves };
      turn = record { less = omega arith; paid = paid_refused p s.entries text };
    }

-- ---- a turn that begins a link

begun_by : (run : Run) (fetch : Fetch) (lanes : ℕ) (s t : State) (p q : Port) (n : ℕ) (u : Link) (by : Scheme) → u.scheme ≡ by → Takes run s n → InStep run fetch lanes s p → link_at s.table n ≡ Some u → length p.flights < lanes → BeginsBy by run n u.text (restated s n InFlight) p t q → Turned run fetch lanes s p t q
begun_by run fetch lanes s t p q n u Http plain k step l room b = subst (λ (x : State). Turned run fetch lanes s p x q) (sym b.0) (started run fetch lanes s p q n u k step l plain room b.1)
begun_by run fetch lanes s t p q n u Https secure k step l room b =
    subst (λ (x : Port). Turned run fetch lanes s p t x) (sym b.0)
    (subst (λ (x : State). Turned run fetch lanes s p x p) (sym b.1) (refused run fetch lanes s p n u.text k step))

pub begun : (run : Run) (fetch : Fetch) (lanes : ℕ) (s m t : State) (p q : Port) (n : ℕ) → Some n ≡ next_of run s → m ≡ restated s n InFlight → InStep run fetch lanes s p → length p.flights < lanes → ((u : Link) → link_at m.table n ≡ Some u → BeginsBy u.scheme run n u.text m p t q) → Turned run fetch lanes s p t q
begun run fetch lanes s m t p q n h e step room b =
    let k = takes run s n h in
    let l : link_at m.table n ≡ Some k.link = ap (λ (x : State). link_at x.table n) e ∙ (link_at_with s.table n n InFlight ∙ k.at) in
    begun_by run fetch lanes s t p q n k.link k.link.scheme refl k step k.at room (subst (λ (x : State). BeginsBy k.link.scheme run n k.link.text x p t q) e (b k.link l))

-- ---- a link that landed

-- the link as it stood before
pub record LandsOn (run : Run) (rows : List (Link × LinkState)) (n : ℕ) (got : Got) (body : ℕ) : Type 0 where
  pub link : Link
  pub at : link_at rows n ≡ Some link
  pub out : state_at rows n ≡ Some InFlight
  pub plain : link.scheme ≡ Http
  pub may : (found : Found) → found_of link body got ≡ Some found → MayFind run link found
  pub answer : IsAnswer got

agrees_at : (web : ToldWeb) (link : Link) (heard : Heard) (body : ℕ) (o : Option Outcome) (found : Found) → web link.text ≡ heard → outcome link heard body ≡ o → option_map Told o ≡ Some found → AgreesAt web body link found
agrees_at web link heard body (Some x) found h e f = subst (AgreesAt web body link) (same_Some _ _ f) (ap (λ (y : Heard). outcome link y body) h ∙ e)
agrees_at web link heard body None found h e f = absurd (cc)

told_agrees : (told web : Option ToldWeb) (link : Link) (heard : Heard) (body : ℕ) (found : Found) → IfSome told (λ w. web ≡ Some w) → IfSome web (λ w. w link.text ≡ heard) → option_map Told (outcome link heard body) ≡ Some found → IfSome told (λ w. AgreesAt w body link found)
told_agrees None web link heard body found same hears is = tt
told_agrees (Some w) web link heard body found same hears is =
    agrees_at w link heard body (outcome link heard body) found (subst (λ (o : Option ToldWeb). IfSome o (λ v. v link.text ≡ heard)) same hears) refl is

lost_agrees : (told : Option ToldWeb) (body : ℕ) (link : Link) (cause : Cause) (tries : ℕ) → IfSome told (λ w. AgreesAt w body link (Unreachable cause tries))
lost_agrees None body link cause tries = tt
lost_agrees (Some w) body link cause tries = tt

never_heard : (told web : Option ToldWeb) (text : Text) → IsSome told → IfSome told (λ w. web ≡ Some w) → NeverHeard web text → NeverHeard told text
never_heard None web text tells same never = absurd (cc)
never_heard (Some w) web text tells same never = subst (λ (o : Option ToldWeb). NeverHeard o text) same never

told_not_lost : (link : Link) (heard : Heard) (body : ℕ) (cause : Cause) (tries : ℕ) → option_map Told (outcome link heard body) ≡ Some (Unreachable cause tries) → ⊥
told_not_lost link heard body cause tries e = no_told (outcome link heard body) cause tries e
  where
    no_told : (o : Option Outcome) (cause : Cause) (tries : ℕ) → option_map Told o ≡ Some (Unreachable cause tries) → ⊥
    no_told (Some x) cause tries e = absurd (cc)
    no_told None cause tries e = absurd (cc)

may_find : (run : Run) (fetch : Fetch) (x : Flight) (link : Link) (got : Got) (found : Found) → 0 < fetch.tries → TellsIfSure run.fetch → Serves run fetch → link.text ≡ x.link → link.scheme ≡ Http → (fetch.sure ≡ true → 0 < x.failed → NeverHeard fetch.web x.link) → Gives fetch x got → found_of link run.body got ≡ Some found → MayFind run link found
may_find run fetch x link (Answered heard) found some tells serves text plain never gives is =
    let hears : IfSome fetch.web (λ w. w link.text ≡ heard) = subst (λ (t : Text). IfSome fetch.web (λ w. w t ≡ heard)) (sym text) gives.1 in
    record {
      agrees = told_agrees run.fetch.web fetch.web link heard run.body found serves.web hears is;
      https = λ s. absurd (cc);
      tried = λ cause tries e. absurd (told_not_lost link heard run.body cause tries (is ∙ ap (λ (f : Found). Some f) e));
      sure = λ cause tries s e. absurd (told_not_lost link heard run.body cause tries (is ∙ ap (λ (f : Found). Some f) e));
    }
may_find run fetch x link (Lost c n) found some tells serves text plain never gives is =
    let e : Unreachable c n ≡ found = same_Some _ _ is in
    let f = gives.0 in
    subst (MayFind run link) e (record {
      agrees = lost_agrees run.fetch.web run.body link c n;
      https = λ s. absurd (cc);
      tried = λ cause tries d. let t : n ≡ tries = cc in sym t ∙ (gives.1 ∙ serves.tries);
      sure = λ cause tries s d. never_heard run.fetch.web fetch.web link.text (tells s) serves.web (subst (λ (t : Text). NeverHeard fetch.web t) (sym text) (never (serves.sure s) (omega arith)));
    })

is_answer : (fetch : Fetch) (x : Flight) (got : Got) → Gives fetch x got → IsAnswer got
is_answer fetch x (Answered heard) g = g.0
is_answer fetch x (Lost cause tries) g = tt

landed : (run : Run) (fetch : Fetch) (lanes : ℕ) (rows : List (Link × LinkState)) (p q : Port) (n : ℕ) (got : Got) → 0 < fetch.tries → TellsIfSure run.fetch → Serves run fetch → IsShared rows p.flights → PortKept fetch lanes p.flights → Lands fetch p n got q → LandsOn run rows n got run.body
landed run fetch lanes rows p q n got some tells serves sh k l =
    let x = go_from fetch p.flights l.mid l.flight l.turns.all l.flew in
    let o = sh.out x.0 x.1 in
    let number : x.0.number ≡ n = sym x.2.number ∙ l.names in
    let kept = kept_gone fetch lanes p.flights l.mid l.turns.all k in
    record {
      link = o.link;
      at = subst (λ (m : ℕ). link_at rows m ≡ Some o.link) number o.at;
      out = subst (λ (m : ℕ). state_at rows m ≡ Some InFlight) number o.state;
      plain = o.plain;
      may = λ found is. may_find run fetch l.flight o.link got found some tells serves (o.text ∙ sym x.2.link) o.plain (kept.never l.flight l.flew) l.gives is;
      answer = is_answer fetch l.flight got l.gives;
    }

pub landed_here : (run : Run) (fetch : Fetch) (lanes : ℕ) (s : State) (p q : Port) (n : ℕ) (got : Got) (body : ℕ) → 0 < fetch.tries → body ≡ run.body → IsKept run s → InStep run fetch lanes s p → Lands fetch p n got q → LandsOn run s.table n got body
landed_here run fetch lanes s p q n got body some e kept step l =
    subst (LandsOn run s.table n got) (sym e) (landed run fetch lanes s.table p q n got some kept.told step.serves step.shared step.port l)

-- what the code asks for before it settles
pub may_settle : (run : Run) (rows : List (Link × LinkState)) (n : ℕ) (got : Got) (body : ℕ) → LandsOn run rows n got body → (u : Link) (found : Found) → link_at rows n ≡ Some u → found_of u body got ≡ Some found → MayFind run u found
may_settle run rows n got body l u found at is =
    let e : l.link ≡ u = same_Some _ _ (sym l.at ∙ at) in
    subst (λ (v : Link). MayFind run v found) e (l.may found (ap (λ (v : Link). found_of v body got) e ∙ is))

shared_landed : (fetch : Fetch) (lanes : ℕ) (rows : List (Link × LinkState)) (p q : Port) (n : ℕ) (got : Got) (found : Found) (us : List Link) → state_at rows n ≡ Some InFlight → IsShared rows p.flights → PortKept fetch lanes p.flights → Lands fetch p n got q → Pays p q found → IsShared (with_state (queue_all rows us) n Settled) q.flights
shared_landed fetch lanes rows p q n got found us at sh k l y =
    let count = settled_flies rows us n at in
    let c = sh.counted in
    let kept = kept_gone fetch lanes p.flights l.mid l.turns.all k in
    let gone = y.flights in
    record {
      out = λ x i.
          let r = in_without l.mid n x kept.once (subst (λ (fl : List Flight). IsIn fl x) l.rest i) in
          let w = go_from fetch p.flights l.mid x l.turns.all r.1 in
          let o = out_grown rows us w.0 (sh.out w.0 w.1) in
          let here : IsOut (queue_all rows us) x = record {
            link = o.link;
            at = ap (λ (m : ℕ). link_at (queue_all rows us) m) w.2.number ∙ o.at;
            state = ap (λ (m : ℕ). state_at (queue_all rows us) m) w.2.number ∙ o.state;
            text = o.text ∙ sym w.2.link;
            plain = o.plain;
          } in
          out_other (queue_all rows us) n Settled x r.0 here;
      counted = omega arith;
    }

-- a turn that settles a link
pub settled_turn : (run : Run) (fetch : Fetch) (lanes : ℕ) (s t : State) (p q : Port) (n : ℕ) (got : Got) (body : ℕ) → 0 < fetch.tries → body ≡ run.body → IsKept run s → InStep run fetch lanes s p → Lands fetch p n got q → ((u : Link) → link_at s.table n ≡ Some u → SettlesGot run n u body got s t) → Turned run fetch lanes s p t q
settled_turn run fetch lanes s t p q n got body some e kept step l h =
    let x = landed_here run fetch lanes s p q n got body some e kept step l in
    let w = h x.link x.at in
    let y = pays fetch lanes p q n got w.found step.port l (counts_for x.link body got w.found x.plain w.of) in
    let us = targets (rule_of run) w.found in
    let shared = shared_landed fetch lanes s.table p q n got w.found us x.out step.shared step.port l y in
    let limited = kept.reach.limited in
    let marks' = flying_marks s.table in
    let count = settled_flies s.table us n x.out in
    let len = length-append s.entries (record { link = x.link.text; found = w.found } ∷ []) in
    subst (λ (r : State). Turned run fetch lanes s p r q) (sym w.is) (record {
      step = record { runs = step.runs; shared = shared; port = kept_lands fetch lanes p q n got l step.port; serves = step.serves };
      turn = record { less = omega arith; paid = paid_entry p q s.entries x.link.text w.found y };
    })

-- the same at equal settings
pub in_step_of : (run : Run) (f g : Fetch) (l m : ℕ) (s : State) (p : Port) → (g ≡ f) × (m ≡ l) → InStep run f l s p → InStep run g m s p
in_step_of run f g l m s p e k = subst (λ (h : Fetch). InStep run h m s p) (sym e.0) (subst (λ (n : ℕ). InStep run f n s p) (sym e.1) k)

-- ---- what a turn leaves of the entries and the output

begun_on_by : (run : Run) (s t : State) (p q : Port) (n : ℕ) (u : Link) (by : Scheme) → s.halted ≡ None → BeginsBy by run n u.text (restated s n InFlight) p t q → RunsOn s t
begun_on_by run s t p q n u Http whole b = subst (RunsOn s) (sym b.0) (on_calm s (restated s n InFlight) whole whole refl refl)
begun_on_by run s t p q n u Https whole b = on_entry s t (record { link = u.text; found = Told (Refused why.Scheme) }) whole (ap (λ (x : State). x.entries) b.1) (ap (λ (x : State). x.out) b.1) (ap (λ (x : State). x.halted) b.1)

pub begun_on : (run : Run) (s m t : State) (p q : Port) (n : ℕ) → IsTrue (is_running s) → Some n ≡ next_of run s → m ≡ restated s n InFlight → ((u : Link) → link_at m.table n ≡ Some u → BeginsBy u.scheme run n u.text m p t q) → RunsOn s t
begun_on run s m t p q n runs h e b =
    let k = takes run s n h in
    let l : link_at m.table n ≡ Some k.link = ap (λ (x : State). link_at x.table n) e ∙ (link_at_with s.table n n InFlight ∙ k.at) in
    begun_on_by run s t p q n k.link k.link.scheme (running_whole s runs) (subst (λ (x : State). BeginsBy k.link.scheme run n k.link.text x p t q) e (b k.link l))

pub settled_on : (run : Run) (s t : State) (n : ℕ) (got : Got) (body : ℕ) → IsTrue (is_running s) → LandsOn run s.table n got body → ((u : Link) → link_at s.table n ≡ Some u → SettlesGot run n u body got s t) → RunsOn s t
settled_on run s t n got body runs x h =
    let w = h x.link x.at in
    on_entry s t (record { link = x.link.text; found = w.found }) (running_whole s runs) (ap (λ (r : State). r.entries) w.is) (ap (λ (r : State). r.out) w.is) (ap (λ (r : State). r.halted) w.is)

-- ---- whole runs

-- nothing is left to do
pub may_close : (run : Run) (fetch : Fetch) (lanes : ℕ) (s : State) (p : Port) → IsReady s → InStep run fetch lanes s p → p.flights ≡ [] → (0 < length p.flights) ⊎ (next_of run s ≡ None) → MayClose run s
may_close run fetch lanes s p ready step idle left =
    let none = ap length idle in
    let counted = step.shared.counted in
    record {
      landed = omega arith;
      dry = ready.dry;
      clear = ready.clear;
      last = elim left [ inl l ↦ absurd (omega arith) | inr n ↦ n ];
    }

-- the counts of a whole run, over its entries
pub exactly_at : (p q : Port) (s t u : State) → p.flights ≡ [] → q.flights ≡ [] → u.entries ≡ t.entries → Paid p (tallies s.entries) q (tallies t.entries) → StartsExactly p (tallies s.entries) q (tallies u.entries)
exactly_at p q s t u e f same a =
    subst (λ (es : List Entry). StartsExactly p (tallies s.entries) q (tallies es)) (sym same) (paid_exactly p q (tallies s.entries) (tallies t.entries) e f a)

pub totals_at : (lanes : ℕ) (p q : Port) (s t u : State) → p.flights ≡ [] → u.entries ≡ t.entries → Covered lanes p (tallies s.entries) q (tallies t.entries) → Totals lanes p (tallies s.entries) q (tallies u.entries)
totals_at lanes p q s t u e same c =
    subst (λ (es : List Entry). Totals lanes p (tallies s.entries) q (tallies es)) (sym same) (covered_totals lanes p q (tallies s.entries) (tallies t.entries) e c)

told_same : (told web : Option ToldWeb) → web ≡ told → IfSome told (λ w. web ≡ Some w)
told_same None web e = tt
told_same (Some w) web e = e

-- a fetcher with the run's own settings serves it
pub serves_same : (run : Run) (fetch : Fetch) → run.fetch ≡ fetch → Serves run fetch
serves_same run fetch e = record {
  tries = ap (λ (f : Fetch). f.tries) (sym e);
  web = told_same run.fetch.web fetch.web (ap (λ (f : Fetch). f.web) (sym e));
  sure = λ s. sym (ap (λ (f : Fetch). f.sure) e) ∙ s;
}

-- nothing is open, and nothing is in flight
pub begins : (run : Run) (fetch : Fetch) (lanes : ℕ) (s : State) (p : Port) → IsTrue (is_running s) → flying s.table ≡ 0 → p.flights ≡ [] → Serves run fetch → InStep run fetch lanes s p
begins run fetch lanes s p runs landed idle serves =
    let none = ap length idle in
    record {
      runs = runs;
      shared = record { out = λ x h. absurd (subst (λ (fl : List Flight). IsIn fl x) idle h); counted = omega arith };
      port = record { once = subst (λ (fl : List Flight). Apart (numbers fl)) (sym idle) tt; never = λ x h. absurd (subst (λ (fl : List Flight). IsIn fl x) idle h); within = omega arith };
      serves = serves;
    }

-- the same table, and the run goes on
pub in_step_at : (run : Run) (fetch : Fetch) (lanes : ℕ) (s t : State) (p : Port) → IsTrue (is_running t) → t.table ≡ s.table → InStep run fetch lanes s p → InStep run fetch lanes t p
in_step_at run fetch lanes s t p runs e k = record { runs = runs; shared = subst (λ rows. IsShared rows p.flights) (sym e) k.shared; port = k.port; serves = k.serves }

-- How the counts of a fetcher go with the entries of a run.
use Rattle.std.proofs.Common.{ℕ, ◌≡◌, ◌≢◌, ◌+◌, ◌<◌, ◌≤◌, List, [], ◌∷◌, ◌++◌, Option, Some, None, Bool, true, false, refl, sym, ◌∙◌, ap, subst, arith, length, length-append}
use Rattle.std.specs.Prelude.{if◌then◌else◌, not, ◌==◌, ◌||◌, nat_lt, Result, Ok, Err}
use Rattle.std.specs.Option.{option_map}
use Rattle.std.proofs.lemmas.Option.{same_Some}
use Rattle.rdf_terms.specs.declared.triple.Triple.{Triple}
use Rattle.link_uri.specs.declared.link.Link.{Link}
use Rattle.link_uri.specs.declared.link.Scheme.{Scheme}
use Rattle.link_uri.specs.declared.link.Scheme.TheVariants.{Http, Https}
use Rattle.link_uri.specs.declared.heard.Reply.{Reply}
use Rattle.link_uri.specs.declared.heard.Heard.{Heard}
use Rattle.link_uri.specs.declared.heard.Heard.TheVariants.{Reply as Replied, Malformed, TooLong, Never}
use Rattle.link_uri.specs.Heard.{is_uncoded, is_turtle, is_ntriples}
use Rattle.ntriples_reader.specs.Reading.{ntriples_reading}
use Rattle.turtle_reader.specs.declared.token_fault.Fault.{Fault}
use Rattle.turtle_reader.specs.declared.token_fault.Fault.TheVariants.{Syntax, Deep}
use Rattle.turtle_reader.specs.Reading.{turtle_reading}
use Rattle.doc_reader.specs.Outcome.{is_redirect, location_link, moved_or_refused, ntriples_outcome, turtle_outcome, text_outcome, body_outcome, reply_outcome, heard_outcome, scheme_outcome, outcome}
use Rattle.reachability.specs.declared.outcome.Outcome.{Outcome}
use Rattle.reachability.specs.declared.outcome.Outcome.TheVariants.{Document, Moved, Refused}
use Rattle.reachability.specs.declared.outcome.Why.TheVariants as why
use Rattle.reachability.specs.declared.record.Cause.{Cause}
use Rattle.reachability.specs.declared.record.Entry.{Entry}
use Rattle.reachability.specs.declared.record.Found.{Found}
use Rattle.reachability.specs.declared.record.Found.TheVariants.{Outcome as Told, Unreachable}
use Rattle.reachability.specs.Web.{Fetch}
use Rattle.reachability.specs.Reach.{Text}
use Rattle.web_port.specs.declared.flight.Flight.{Flight}
use Rattle.web_port.specs.declared.fetcher.Got.{Got}
use Rattle.web_port.specs.declared.fetcher.Got.TheVariants.{Heard as Answered, Unreachable as Lost}
use Rattle.web_port.specs.Counts.{lost_in}
use Rattle.web_port.specs.Flights.{fresh, failed_tries, without}
use Rattle.web_port.specs.Port.{Port, lost_by, Gives, Lands, Waits, Starts, Stays, PortKept}
use Rattle.web_port.proofs.PortLemmas.{go_length, kept_gone, length_without, failed_without, length_starts, failed_starts}
use Rattle.traverse_core.specs.Alone.{found_of}
use Rattle.traverse_core.specs.Totals.{Kind, weight_of, tally, tallies, count, held, Paid, Covered, Totals, StartsExactly}
use Rattle.traverse_core.specs.Totals.Kind.{Started, Failed, LostBy}

pub tally-append : (k : Kind) (es fs : List Entry) → tally k (es ++ fs) ≡ tally k es + tally k fs
tally-append k [] fs = omega arith
tally-append k (e ∷ es) fs = let r = tally-append k es fs in omega arith

pub tally_push : (k : Kind) (es : List Entry) (e : Entry) → tally k (es ++ e ∷ []) ≡ tally k es + weight_of k e.found
tally_push k es e = let r = tally-append k es (e ∷ []) in omega arith

-- ---- one moment after another

pub paid_none : (p : Port) (u : Kind → ℕ) → Paid p u p u
paid_none p u = record { least = λ k. omega arith; most = omega arith }

pub paid_on : (p q r : Port) (u v w : Kind → ℕ) → Paid p u q v → Paid q v r w → Paid p u r w
paid_on p q r u v w a b =
    let x = a.most in
    let y = b.most in
    record { least = λ k. let c = a.least k in let d = b.least k in omega arith; most = omega arith }

pub covered_on : (lanes : ℕ) (p q r : Port) (u v w : Kind → ℕ) → Paid p u q v → Covered lanes q v r w → Covered lanes p u r w
covered_on lanes p q r u v w a b =
    let x = a.most in
    let y = b.most in
    record { least = λ k. let c = a.least k in let d = b.least k in omega arith; most = omega arith }

pub paid_covered : (lanes : ℕ) (p q : Port) (u v : Kind → ℕ) → length q.flights ≤ lanes → Paid p u q v → Covered lanes p u q v
paid_covered lanes p q u v l a =
    let x = a.most in
    record { least = λ k. let c = a.least k in omega arith; most = omega arith }

-- nothing happened
pub covered_none : (lanes : ℕ) (p : Port) (u : Kind → ℕ) → length p.flights ≤ lanes → Covered lanes p u p u
covered_none lanes p u l = paid_covered lanes p p u u l (paid_none p u)

-- the entries are the same
pub covered_same : (lanes : ℕ) (p q : Port) (es fs : List Entry) → fs ≡ es → Covered lanes p (tallies es) q (tallies es) → Covered lanes p (tallies es) q (tallies fs)
covered_same lanes p q es fs e c = subst (λ (x : List Entry). Covered lanes p (tallies es) q (tallies x)) (sym e) c

pub paid_entries : (p q : Port) (es fs : List Entry) → fs ≡ es → Paid p (tallies es) q (tallies es) → Paid p (tallies es) q (tallies fs)
paid_entries p q es fs e c = subst (λ (x : List Entry). Paid p (tallies es) q (tallies x)) (sym e) c

-- ---- over a whole run, from nothing open

held_none : (k : Kind) (xs : List Flight) → xs ≡ [] → held k xs ≡ 0
held_none Started xs e = ap length e
held_none Failed xs e = ap failed_tries e
held_none (LostBy c) xs e = refl

pub covered_totals : (lanes : ℕ) (p q : Port) (u v : Kind → ℕ) → p.flights ≡ [] → Covered lanes p u q v → Totals lanes p u q v
covered_totals lanes p q u v e c =
    let n = ap length e in
    let most = c.most in
    record { least = λ k. let a = c.least k in let h = held_none k p.flights e in omega arith; most = omega arith }

pub paid_totals : (lanes : ℕ) (p q : Port) (u v : Kind → ℕ) → p.flights ≡ [] → q.flights ≡ [] → Paid p u q v → Totals lanes p u q v
paid_totals lanes p q u v e f a =
    covered_totals lanes p q u v e (paid_covered lanes p q u v (let n = ap length f in omega arith) a)

pub paid_exactly : (p q : Port) (u v : Kind → ℕ) → p.flights ≡ [] → q.flights ≡ [] → Paid p u q v → StartsExactly p u q v
paid_exactly p q u v e f a =
    let x = a.most in
    let y = a.least Started in
    let m = ap length e in
    let n = ap length f in
    omega arith

-- ---- the steps of a fetcher

pub paid_starts : (p q : Port) (u : Kind → ℕ) (n : ℕ) (text : Text) → Starts p n text q → Paid p u q u
paid_starts p q u n text s =
    let x = length_starts p q n text s in
    let f = failed_starts p q n text s in
    let a = s.starts in
    let b = s.faults in
    record {
      least = elim [ Started ↦ omega arith | Failed ↦ omega arith | LostBy c ↦ let d = ap (λ l. lost_in l c) s.lost in omega arith ];
      most = omega arith;
    }

pub paid_waits : (fetch : Fetch) (p q : Port) (u : Kind → ℕ) → Waits fetch p q → Paid p u q u
paid_waits fetch p q u w =
    let l = go_length fetch p.flights q.flights w.turns.all in
    let a = w.turns.starts in
    let b = w.turns.charged in
    record {
      least = elim [ Started ↦ omega arith | Failed ↦ omega arith | LostBy c ↦ let d = w.counts c in omega arith ];
      most = omega arith;
    }

pub covered_stays : (lanes : ℕ) (p q : Port) (u : Kind → ℕ) → length p.flights ≤ lanes → Stays p q → Covered lanes p u q u
covered_stays lanes p q u w y =
    let b = y.faults in
    let c = y.starts in
    record {
      least = elim [ Started ↦ omega arith | Failed ↦ omega arith | LostBy c ↦ let d = ap (λ l. lost_in l c) y.lost in omega arith ];
      most = omega arith;
    }

-- an entry of a link that was refused for its scheme counts for nothing
refused_nothing : (k : Kind) → weight_of k (Told (Refused why.Scheme)) ≡ 0
refused_nothing Started = refl
refused_nothing Failed = refl
refused_nothing (LostBy c) = refl

pub paid_refused : (p : Port) (es : List Entry) (text : Text) → Paid p (tallies es) p (tallies (es ++ record { link = text; found = Told (Refused why.Scheme) } ∷ []))
paid_refused p es text =
    let new : Entry = record { link = text; found = Told (Refused why.Scheme) } in
    let same : (k : Kind) → tally k (es ++ new ∷ []) ≡ tally k es = λ k. let t = tally_push k es new in let z = refused_nothing k in omega arith in
    record { least = λ k. let t = same k in omega arith; most = let t = same Started in omega arith }

-- ---- what was got for an http link counts as one start

-- one start
abbrev IsOne : Outcome → Type 0
IsOne o = weight_of Started (Told o) ≡ 1

pick : (b : Bool) (x y : Outcome) → IsOne x → IsOne y → IsOne (if b then x else y)
pick true x y a b = a
pick false x y a b = b

moved_one : (to : Option Link) → IsOne (moved_or_refused to)
moved_one (Some to) = refl
moved_one None = refl

ntriples_one : (r : Result (List Triple) ℕ) → IsOne (ntriples_outcome r)
ntriples_one (Ok triples) = refl
ntriples_one (Err at) = refl

turtle_one : (r : Result (List Triple) Fault) → IsOne (turtle_outcome r)
turtle_one (Ok triples) = refl
turtle_one (Err (Syntax at)) = refl
turtle_one (Err (Deep at)) = refl

text_one : (link : Link) (reply : Reply) → IsOne (text_outcome link reply)
text_one link reply = pick (is_turtle reply) _ _ (turtle_one (turtle_reading link.text link.text reply.body)) (ntriples_one (ntriples_reading link.text reply.body))

body_one : (link : Link) (reply : Reply) (limit : ℕ) → IsOne (body_outcome link reply limit)
body_one link reply limit =
    pick (not (is_uncoded reply)) _ _ refl
    (pick (not (is_turtle reply || is_ntriples reply)) _ _ refl
    (pick (nat_lt limit (length reply.body)) _ _ refl (text_one link reply)))

reply_one : (link : Link) (reply : Reply) (limit : ℕ) → IsOne (reply_outcome link reply limit)
reply_one link reply limit =
    pick (is_redirect reply.status) _ _ (moved_one (location_link link reply.location))
    (pick (not (reply.status == 200)) _ _ refl (body_one link reply limit))

heard_one : (link : Link) (heard : Heard) (limit : ℕ) (o : Outcome) → heard_outcome link heard limit ≡ Some o → IsOne o
heard_one link (Replied reply) limit o e = subst IsOne (same_Some _ _ e) (reply_one link reply limit)
heard_one link Malformed limit o e = subst IsOne (same_Some _ _ e) refl
heard_one link TooLong limit o e = subst IsOne (same_Some _ _ e) refl
heard_one link Never limit o e = absurd (cc)

outcome_one : (link : Link) (heard : Heard) (limit : ℕ) (o : Outcome) → link.scheme ≡ Http → outcome link heard limit ≡ Some o → IsOne o
outcome_one link heard limit o plain e = heard_one link heard limit o (sym (ap (λ (s : Scheme). scheme_outcome s link heard limit) plain) ∙ e)

-- ---- a landing

-- what was found counts for: one start, at most the failed tries, and the loss that was counted
pub record CountsFor (got : Got) (found : Found) : Type 0 where
  pub one : weight_of Started found ≡ 1
  pub failed : (fetch : Fetch) (x : Flight) → Gives fetch x got → weight_of Failed found ≤ x.failed
  pub lost : (c : Cause) → weight_of (LostBy c) found ≡ lost_by got c

told_from : (o : Option Outcome) (found : Found) → option_map Told o ≡ Some found → (x : Outcome) × (o ≡ Some x) × (found ≡ Told x)
told_from (Some x) found e = (x, refl, sym (same_Some _ _ e))
told_from None found e = absurd (cc)

pub counts_for : (link : Link) (body : ℕ) (got : Got) (found : Found) → link.scheme ≡ Http → found_of link body got ≡ Some found → CountsFor got found
counts_for link body (Answered heard) found plain e =
    let t = told_from (outcome link heard body) found e in
    subst (CountsFor (Answered heard)) (sym t.2) (record { one = outcome_one link heard body t.0 plain t.1; failed = λ fetch x g. omega arith; lost = λ c. refl })
counts_for link body (Lost cause tries) found plain e =
    subst (CountsFor (Lost cause tries)) (same_Some _ _ e) (record { one = refl; failed = λ fetch x g. let a = g.0 in let b = g.1 in omega arith; lost = λ c. refl })

-- what a landing does to the numbers, beside the link that it takes out
pub record Pays (p q : Port) (found : Found) : Type 0 where
  pub flights : length q.flights + 1 ≡ length p.flights
  pub one : weight_of Started found ≡ 1
  pub faults : p.faults + (weight_of Failed found + failed_tries q.flights) ≤ q.faults + failed_tries p.flights
  pub starts : q.starts ≡ p.starts
  pub counts : (c : Cause) → lost_in q.lost c ≡ lost_in p.lost c + weight_of (LostBy c) found

pub pays : (fetch : Fetch) (lanes : ℕ) (p q : Port) (n : ℕ) (got : Got) (found : Found) → PortKept fetch lanes p.flights → Lands fetch p n got q → CountsFor got found → Pays p q found
pays fetch lanes p q n got found k l w =
    let kept = kept_gone fetch lanes p.flights l.mid l.turns.all k in
    let rest : q.flights ≡ without l.flight.number l.mid = l.rest ∙ ap (λ (m : ℕ). without m l.mid) (sym l.names) in
    let a = go_length fetch p.flights l.mid l.turns.all in
    let b = length_without l.mid l.flight l.flew in
    let c = failed_without l.mid l.flight kept.once l.flew in
    let d = ap length rest in
    let e = ap failed_tries rest in
    let f = l.turns.charged in
    let g = w.failed fetch l.flight l.gives in
    record {
      flights = omega arith;
      one = w.one;
      faults = omega arith;
      starts = l.turns.starts;
      counts = λ c. l.counts c ∙ ap (λ (m : ℕ). lost_in p.lost c + m) (sym (w.lost c));
    }

-- a landing with its entry
pub paid_entry : (p q : Port) (es : List Entry) (text : Text) (found : Found) → Pays p q found → Paid p (tallies es) q (tallies (es ++ record { link = text; found = found } ∷ []))
paid_entry p q es text found y =
    let a = y.flights in
    let b = y.faults in
    let c = y.starts in
    let one = y.one in
    let new : Entry = record { link = text; found = found } in
    let t = tally_push Started es new in
    let s = tally_push Failed es new in
    record {
      least = elim [ Started ↦ omega arith | Failed ↦ omega arith | LostBy c ↦ let d = y.counts c in let r = tally_push (LostBy c) es new in omega arith ];
      most = omega arith;
    }

-- a landing without an entry
pub covered_lands : (fetch : Fetch) (lanes : ℕ) (p q : Port) (u : Kind → ℕ) (n : ℕ) (got : Got) → PortKept fetch lanes p.flights → Lands fetch p n got q → Covered lanes p u q u
covered_lands fetch lanes p q u n got k l =
    let kept = kept_gone fetch lanes p.flights l.mid l.turns.all k in
    let rest : q.flights ≡ without l.flight.number l.mid = l.rest ∙ ap (λ (m : ℕ). without m l.mid) (sym l.names) in
    let a = go_length fetch p.flights l.mid l.turns.all in
    let c = failed_without l.mid l.flight kept.once l.flew in
    let e = ap failed_tries rest in
    let f = l.turns.charged in
    let s = l.turns.starts in
    let w = k.within in
    record {
      least = elim [ Started ↦ omega arith | Failed ↦ omega arith | LostBy d ↦ let x = l.counts d in omega arith ];
      most = omega arith;
    }

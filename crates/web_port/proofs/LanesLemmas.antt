-- The open links of a fetcher in memory, where one of them fails a try or is taken out.
use Rattle.std.proofs.Common.{ℕ, zero, suc, ◌≡◌, ◌+◌, ◌<◌, List, [], ◌∷◌, ◌++◌, refl, sym, ◌∙◌, ap, subst, inl, inr, arith, length, get_or, set, append-nil}
use Rattle.std.specs.Prelude.{map, remove, OnOk, OnErr, Result, Ok, Err}
use Rattle.rdf_terms.specs.Lists.{IsIn, Apart}
use Rattle.rdf_terms.proofs.Members.{apart_push, map_push}
use Rattle.reachability.specs.declared.record.Cause.{Cause}
use Rattle.reachability.specs.declared.record.Cause.TheVariants.{Connect, Broken, Cut, Silent}
use Rattle.reachability.specs.Web.{Fetch, NeverHeard}
use Rattle.web_port.specs.declared.flight.Flight.{Flight}
use Rattle.web_port.specs.declared.losses.Losses.{Losses}
use Rattle.web_port.specs.Counts.{lost_in, one_more, is_cause}
use Rattle.web_port.specs.Flights.{flight_number, numbers, failed_tries, without, fresh}
use Rattle.web_port.specs.Port.{Goes, AllGo, Starts}
use Rattle.web_port.specs.Lanes.{Flying, started, AllBelow, FlightsKept, failed_once, tries_left, port_of}
use Rattle.web_port.proofs.PortLemmas.{go_none, without_cases}

-- no failed try at a sure fetcher, but for a link that is never heard
abbrev pub MayFail : Fetch → Flight → Type 0
MayFail fetch x = fetch.sure ≡ Rattle.std.specs.Prelude.true → NeverHeard fetch.web x.link

pub on_err : {A E : Type 0} {P : Type 0} (r : Result A E) → P → OnErr r P
on_err (Ok x) p = tt
on_err (Err e) p = p

pub one_more_counts : (losses : Losses) (cause c : Cause) → lost_in (one_more losses cause) c ≡ lost_in losses c + is_cause cause c
one_more_counts l Connect Connect = refl
one_more_counts l Connect Broken = omega arith
one_more_counts l Connect Cut = omega arith
one_more_counts l Connect Silent = omega arith
one_more_counts l Broken Connect = omega arith
one_more_counts l Broken Broken = refl
one_more_counts l Broken Cut = omega arith
one_more_counts l Broken Silent = omega arith
one_more_counts l Cut Connect = omega arith
one_more_counts l Cut Broken = omega arith
one_more_counts l Cut Cut = refl
one_more_counts l Cut Silent = omega arith
one_more_counts l Silent Connect = omega arith
one_more_counts l Silent Broken = omega arith
one_more_counts l Silent Cut = omega arith
one_more_counts l Silent Silent = refl

-- ---- a failed try

goes_failed : (fetch : Fetch) (x : Flight) (cause : Cause) → MayFail fetch x → Goes fetch x (failed_once x cause)
goes_failed fetch x cause f = record { number = refl; link = refl; risen = omega arith; same = λ e. absurd (omega arith); sure = λ s h. f s }

goes_same : (fetch : Fetch) (x : Flight) → Goes fetch x x
goes_same fetch x = record { number = refl; link = refl; risen = omega arith; same = λ e. refl; sure = λ s h. absurd (omega arith) }

pub go_set : (fetch : Fetch) (xs : List Flight) (i : ℕ) (d : Flight) (cause : Cause) → i < length xs → MayFail fetch (get_or xs i d) → AllGo fetch xs (set xs i (failed_once (get_or xs i d) cause))
go_set fetch [] i d cause h f = absurd (omega arith)
go_set fetch (x ∷ xs) zero d cause h f = (goes_failed fetch x cause f, go_none fetch xs)
go_set fetch (x ∷ xs) (suc i) d cause h f = (goes_same fetch x, go_set fetch xs i d cause (omega arith) f)

pub failed_set : (xs : List Flight) (i : ℕ) (d : Flight) (cause : Cause) → i < length xs → failed_tries (set xs i (failed_once (get_or xs i d) cause)) ≡ failed_tries xs + 1
failed_set [] i d cause h = absurd (omega arith)
failed_set (x ∷ xs) zero d cause h = omega arith
failed_set (x ∷ xs) (suc i) d cause h = let r = failed_set xs i d cause (omega arith) in omega arith

pub left_set : (tries : ℕ) (xs : List Flight) (i : ℕ) (d : Flight) (cause : Cause) → i < length xs → (get_or xs i d).failed < tries → tries_left tries (set xs i (failed_once (get_or xs i d) cause)) < tries_left tries xs
left_set tries [] i d cause h f = absurd (omega arith)
left_set tries (x ∷ xs) zero d cause h f = omega arith
left_set tries (x ∷ xs) (suc i) d cause h f = let r = left_set tries xs i d cause (omega arith) f in omega arith

pub below_at : (tries : ℕ) (xs : List Flight) (i : ℕ) (d : Flight) → AllBelow tries xs → i < length xs → (get_or xs i d).failed < tries
below_at tries [] i d a h = absurd (omega arith)
below_at tries (x ∷ xs) zero d a h = a.0
below_at tries (x ∷ xs) (suc i) d a h = below_at tries xs i d a.1 (omega arith)

below_set : (tries : ℕ) (xs : List Flight) (i : ℕ) (y : Flight) → AllBelow tries xs → y.failed < tries → AllBelow tries (set xs i y)
below_set tries [] i y a h = a
below_set tries (x ∷ xs) zero y a h = (h, a.1)
below_set tries (x ∷ xs) (suc i) y a h = (a.0, below_set tries xs i y a.1 h)

numbers_set : (xs : List Flight) (i : ℕ) (d : Flight) (cause : Cause) → numbers (set xs i (failed_once (get_or xs i d) cause)) ≡ numbers xs
numbers_set [] i d cause = refl
numbers_set (x ∷ xs) zero d cause = refl
numbers_set (x ∷ xs) (suc i) d cause = ap (λ (ns : List ℕ). x.number ∷ ns) (numbers_set xs i d cause)

pub kept_set : (tries : ℕ) (xs : List Flight) (i : ℕ) (d : Flight) (cause : Cause) → FlightsKept tries xs → (get_or xs i d).failed + 1 < tries → FlightsKept tries (set xs i (failed_once (get_or xs i d) cause))
kept_set tries xs i d cause k h = record {
  below = below_set tries xs i (failed_once (get_or xs i d) cause) k.below h;
  once = subst (λ (ns : List ℕ). Apart ns) (sym (numbers_set xs i d cause)) k.once;
}

-- ---- without one

gone : List Flight → ℕ → List Flight
gone [] i = []
gone (x ∷ xs) zero = xs
gone (x ∷ xs) (suc i) = x ∷ gone xs i

is_gone : (xs : List Flight) (i : ℕ) → remove xs i ≡ gone xs i
unfolding gone
is_gone [] zero = refl
is_gone [] (suc i) = refl
is_gone (x ∷ xs) zero = refl
is_gone (x ∷ xs) (suc i) = ap (λ (ys : List Flight). x ∷ ys) (is_gone xs i)

in_numbers : (xs : List Flight) (i : ℕ) (d : Flight) → i < length xs → IsIn (numbers xs) (get_or xs i d).number
in_numbers [] i d h = absurd (omega arith)
in_numbers (x ∷ xs) zero d h = inl refl
in_numbers (x ∷ xs) (suc i) d h = inr (in_numbers xs i d (omega arith))

without_gone : (xs : List Flight) (i : ℕ) (d y : Flight) → Apart (numbers xs) → i < length xs → y.number ≡ (get_or xs i d).number → gone xs i ≡ without y.number (set xs i y)
unfolding gone
without_gone [] i d y a h e = absurd (omega arith)
without_gone (x ∷ xs) zero d y a h e =
    elim (without_cases y xs y.number) [ inl p ↦ sym p.1 | inr q ↦ absurd (q.0 refl) ]
without_gone (x ∷ xs) (suc i) d y a h e =
    elim (without_cases x (set xs i y) y.number) [
      | inl p ↦ absurd (a.0 (subst (λ (n : ℕ). IsIn (numbers xs) n) (sym (p.0 ∙ e)) (in_numbers xs i d (omega arith))))
      | inr q ↦ ap (λ (ys : List Flight). x ∷ ys) (without_gone xs i d y a.1 (omega arith) e) ∙ sym q.1
    ]

pub without_set : (xs : List Flight) (i : ℕ) (d y : Flight) → Apart (numbers xs) → i < length xs → y.number ≡ (get_or xs i d).number → remove xs i ≡ without y.number (set xs i y)
without_set xs i d y a h e = is_gone xs i ∙ without_gone xs i d y a h e

pub in_set : (xs : List Flight) (i : ℕ) (y : Flight) → i < length xs → IsIn (set xs i y) y
in_set [] i y h = absurd (omega arith)
in_set (x ∷ xs) zero y h = inl refl
in_set (x ∷ xs) (suc i) y h = inr (in_set xs i y (omega arith))

pub set_same : (xs : List Flight) (i : ℕ) (d : Flight) → set xs i (get_or xs i d) ≡ xs
set_same [] i d = refl
set_same (x ∷ xs) zero d = refl
set_same (x ∷ xs) (suc i) d = ap (λ (ys : List Flight). x ∷ ys) (set_same xs i d)

from_gone : (xs : List Flight) (i n : ℕ) → IsIn (numbers (gone xs i)) n → IsIn (numbers xs) n
unfolding gone
from_gone [] i n h = h
from_gone (x ∷ xs) zero n h = inr h
from_gone (x ∷ xs) (suc i) n (inl e) = inl e
from_gone (x ∷ xs) (suc i) n (inr h) = inr (from_gone xs i n h)

kept_gone : (tries : ℕ) (xs : List Flight) (i : ℕ) → FlightsKept tries xs → FlightsKept tries (gone xs i)
unfolding gone
kept_gone tries [] i k = k
kept_gone tries (x ∷ xs) zero k = record { below = k.below.1; once = k.once.1 }
kept_gone tries (x ∷ xs) (suc i) k =
    let r = kept_gone tries xs i (record { below = k.below.1; once = k.once.1 }) in
    record { below = (k.below.0, r.below); once = ((λ h. k.once.0 (from_gone xs i x.number h)), r.once) }

pub kept_remove : (tries : ℕ) (xs : List Flight) (i : ℕ) → FlightsKept tries xs → FlightsKept tries (remove xs i)
kept_remove tries xs i k = subst (λ (ys : List Flight). FlightsKept tries ys) (sym (is_gone xs i)) (kept_gone tries xs i k)

-- ---- one more

below_push : (tries : ℕ) (xs : List Flight) (y : Flight) → AllBelow tries xs → y.failed < tries → AllBelow tries (xs ++ y ∷ [])
below_push tries [] y a h = (h, tt)
below_push tries (x ∷ xs) y a h = (a.0, below_push tries xs y a.1 h)

pub kept_start : (tries : ℕ) (xs : List Flight) (number : ℕ) (text : List ℕ) → FlightsKept tries xs → 0 < tries → (IsIn (numbers xs) number → ⊥) → FlightsKept tries (xs ++ fresh number text ∷ [])
kept_start tries xs number text k h new = record {
  below = below_push tries xs (fresh number text) k.below h;
  once = subst (λ (ns : List ℕ). Apart ns) (sym (map_push flight_number xs (fresh number text))) (apart_push (numbers xs) number k.once new);
}

pub kept_started : {A E : Type 0} (r : Result A E) (tries : ℕ) (o new : Flying) (number : ℕ) (text : List ℕ) → FlightsKept tries o.flights → 0 < tries → (IsIn (numbers o.flights) number → ⊥) → OnOk r (new ≡ started o number text) → OnErr r (new ≡ o) → FlightsKept tries new.flights
kept_started (Ok x) tries o new number text k h f s e = rw s (kept_start tries o.flights number text k h f)
kept_started (Err x) tries o new number text k h f s e = rw e k

-- a link is started behind the others
pub starts_behind : (m n : ℕ) (o : Flying) (number : ℕ) (text : List ℕ) → Starts (port_of m o) number text (port_of n (started o number text))
starts_behind m n o number text = record { ahead = o.flights; behind = []; were = sym (append-nil o.flights); flights = refl; faults = refl; starts = refl; lost = refl }

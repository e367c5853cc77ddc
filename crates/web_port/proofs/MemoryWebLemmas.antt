-- What a poll of a web in memory does is what a fetcher's poll may do.
use Rattle.std.proofs.Common.{ℕ, ◌≡◌, ◌≢◌, ◌⊎◌, ◌+◌, ◌-◌, ◌<◌, ◌≤◌, List, [], ◌∷◌, Option, Some, None, Bool, true, false, refl, sym, ◌∙◌, ap, subst, inl, inr, arith, length, get_or, set, drop}
use Rattle.std.specs.Prelude.{if◌then◌else◌, ◌==◌, nat_lt, Result, Ok, Err, IfOk, OnOk, OnErr}
use Rattle.rdf_terms.specs.declared.memory.Memory.{Memory}
use Rattle.std.proofs.lemmas.Bool.Decides.{nat_tests}
use Rattle.std.proofs.lemmas.List.{drop-drop}
use Rattle.rdf_terms.specs.Lists.{IsIn, Apart}
use Rattle.link_uri.specs.declared.heard.Heard.{Heard}
use Rattle.link_uri.specs.declared.heard.Heard.TheVariants.{Reply, Malformed, TooLong, Never}
use Rattle.reachability.specs.declared.record.Cause.{Cause}
use Rattle.reachability.specs.declared.web.Web.{Web}
use Rattle.reachability.specs.Web.{Fetch, heard_at}
use Rattle.web_port.specs.declared.flight.Flight.{Flight}
use Rattle.web_port.specs.declared.fetcher.Got.TheVariants.{Heard as Told, Unreachable}
use Rattle.web_port.specs.declared.fetcher.Polled.{Polled}
use Rattle.web_port.specs.declared.fetcher.Polled.TheVariants.{Settled, Pending}
use Rattle.web_port.specs.Flights.{numbers, fresh}
use Rattle.web_port.specs.Port.{Port, Waits, Polls}
use Rattle.web_port.specs.Lanes.{Flying, FlightsKept, failed_once, retried, given_up, answered, tries_left, port_of}
use Rattle.web_port.specs.MemoryWeb.{Fails, Fetching, first_turn, later_turns, times_in, is_never, failing, polled_try, after_try, flight_at, place_of, waiting_turn, polled_lane, polled_turn, after_lane, after_turn, next_polled, after_poll, is_empty_list, fetch_of, fetching_port}
use Rattle.web_port.proofs.PortLemmas.{go_none}
use Rattle.web_port.proofs.LanesLemmas.{MayFail, one_more_counts, go_set, failed_set, left_set, below_at, kept_set, without_set, in_set, set_same, kept_remove}

-- ---- turns

later_drop : (xs : List ℕ) → later_turns xs ≡ drop 1 xs
later_drop [] = refl
later_drop (x ∷ xs) = refl

pub drop_behind : (at : ℕ) (xs : List ℕ) → drop (at + 1) xs ≡ later_turns (drop at xs)
drop_behind at xs = sym (later_drop (drop at xs) ∙ drop-drop 1 at xs)

later_less : (turns : List ℕ) → length (later_turns turns) ≤ length turns
later_less [] = omega arith
later_less (x ∷ xs) = omega arith

turn_less : (turns : List ℕ) → first_turn turns ≡ 65535 → length (later_turns turns) < length turns
turn_less [] e = absurd (omega arith)
turn_less (x ∷ xs) e = omega arith

-- ---- what a try gives

some_flight : (xs : List Flight) (i : ℕ) → i < length xs → xs ≢ []
some_flight [] i h e = absurd (omega arith)
some_flight (x ∷ xs) i h e = absurd (cc)

pub waits_same : (fetch : Fetch) (m n : ℕ) (o : Flying) → Waits fetch (port_of m o) (port_of n o)
waits_same fetch m n o = record { turns = record { all = go_none fetch o.flights; charged = omega arith; starts = refl }; counts = λ c. refl }

-- the tries have an end, which this one is not
polls_retried : (fetch : Fetch) (tries m n : ℕ) (o : Flying) (i : ℕ) (d : Flight) (cause : Cause) → n ≤ m → i < length o.flights → (get_or o.flights i d).failed < tries → MayFail fetch (get_or o.flights i d)
    → Polls fetch (port_of (m + tries_left tries o.flights) o) Pending (port_of (n + tries_left tries (retried o i (get_or o.flights i d) cause).flights) (retried o i (get_or o.flights i d) cause))
polls_retried fetch tries m n o i d cause le h b f =
    let r = failed_set o.flights i d cause h in
    let l = left_set tries o.flights i d cause h b in (
      record { turns = record { all = go_set fetch o.flights i d cause h f; charged = omega arith; starts = refl }; counts = λ c. refl },
      some_flight o.flights i h,
      omega arith,
    )

polls_given_up : (fetch : Fetch) (tries m n : ℕ) (o : Flying) (i : ℕ) (d : Flight) (cause : Cause) → i < length o.flights → (get_or o.flights i d).failed + 1 ≡ tries → fetch.tries ≡ tries → MayFail fetch (get_or o.flights i d) → Apart (numbers o.flights)
    → Polls fetch (port_of m o) (Settled (get_or o.flights i d).number (Unreachable cause tries)) (port_of n (given_up o i cause))
polls_given_up fetch tries m n o i d cause h last same f a =
    let r = failed_set o.flights i d cause h in
    record {
      flight = failed_once (get_or o.flights i d) cause;
      mid = set o.flights i (failed_once (get_or o.flights i d) cause);
      turns = record { all = go_set fetch o.flights i d cause h f; charged = omega arith; starts = refl };
      flew = in_set o.flights i (failed_once (get_or o.flights i d) cause) h;
      names = refl;
      rest = without_set o.flights i d (failed_once (get_or o.flights i d) cause) a h refl;
      gives = (last ∙ sym same, sym same, refl);
      counts = λ c. one_more_counts o.lost cause c;
    }

not_never : (heard : Heard) → is_never heard ≡ false → heard ≢ Never
not_never (Reply reply) h e = absurd (cc)
not_never Malformed h e = absurd (cc)
not_never TooLong h e = absurd (cc)
not_never Never h e = absurd (cc)

never_it_is : (heard : Heard) → is_never heard ≡ true → heard ≡ Never
never_it_is (Reply reply) h = absurd (cc)
never_it_is Malformed h = absurd (cc)
never_it_is TooLong h = absurd (cc)
never_it_is Never h = refl

pub polls_answered : (web : Web) (tries m n : ℕ) (fails : Fails) (o : Flying) (i : ℕ) (d : Flight) (heard : Heard) → i < length o.flights → heard ≢ Never → heard_at web (get_or o.flights i d).link ≡ heard → Apart (numbers o.flights)
    → Polls (fetch_of web tries fails) (port_of m o) (Settled (get_or o.flights i d).number (Told heard)) (port_of n (answered o i))
polls_answered web tries m n fails o i d heard h speaks hears a =
    record {
      flight = get_or o.flights i d;
      mid = o.flights;
      turns = record { all = go_none (fetch_of web tries fails) o.flights; charged = omega arith; starts = refl };
      flew = subst (λ (ys : List Flight). IsIn ys (get_or o.flights i d)) (set_same o.flights i d) (in_set o.flights i (get_or o.flights i d) h);
      names = refl;
      rest = without_set o.flights i d (get_or o.flights i d) a h refl ∙ ap (λ (ys : List Flight). Rattle.web_port.specs.Flights.without (get_or o.flights i d).number ys) (set_same o.flights i d);
      gives = (speaks, hears);
      counts = λ c. omega arith;
    }

-- ---- which tries fail

no_times : (fails : Fails) (n : ℕ) (text : List ℕ) → is_empty_list fails ≡ true → nat_lt n (times_in fails text) ≡ true → ⊥
no_times [] n text e h = grind (arith, nat_tests)
no_times (x ∷ xs) n text e h = absurd (cc)

fails_cases : (b c : Bool) (x y : Option Cause) (cause : Cause) → (if b then x else (if c then y else None)) ≡ Some cause → (b ≡ true) ⊎ (c ≡ true)
fails_cases true c x y cause e = inl refl
fails_cases false true x y cause e = inr refl
fails_cases false false x y cause e = absurd (cc)

answers_cases : (b c : Bool) (x y : Cause) → (if b then Some x else (if c then Some y else None)) ≡ None → c ≡ false
answers_cases true c x y e = absurd (cc)
answers_cases false true x y e = absurd (cc)
answers_cases false false x y e = refl

-- with no link that fails to connect, only a link that is never heard fails
may_fail : (web : Web) (tries : ℕ) (fails : Fails) (x : Flight) (cause : Cause) → failing fails (heard_at web x.link) x ≡ Some cause → MayFail (fetch_of web tries fails) x
may_fail web tries fails x cause e = λ s.
    elim (fails_cases _ _ _ _ cause e) [
      | inl b ↦ absurd (no_times fails x.failed x.link s b)
      | inr c ↦ never_it_is (heard_at web x.link) c
    ]

-- ---- a poll

polls_failed : (fetch : Fetch) (tries m n : ℕ) (o : Flying) (i : ℕ) (d : Flight) (cause : Cause) (b : Bool) → nat_lt ((get_or o.flights i d).failed + 1) tries ≡ b → n ≤ m → i < length o.flights → fetch.tries ≡ tries → MayFail fetch (get_or o.flights i d) → FlightsKept tries o.flights
    → Polls fetch (port_of (m + tries_left tries o.flights) o)
    (if b then Pending else Settled (get_or o.flights i d).number (Unreachable cause tries))
    (port_of (n + tries_left tries (if b then retried o i (get_or o.flights i d) cause else given_up o i cause).flights) (if b then retried o i (get_or o.flights i d) cause else given_up o i cause))
polls_failed fetch tries m n o i d cause true e le h same f k =
    polls_retried fetch tries m n o i d cause le h (below_at tries o.flights i d k.below h) f
polls_failed fetch tries m n o i d cause false e le h same f k =
    let below = below_at tries o.flights i d k.below h in
    let last : (get_or o.flights i d).failed + 1 ≡ tries = grind (arith, nat_tests) in
    polls_given_up fetch tries (m + tries_left tries o.flights) (n + tries_left tries (given_up o i cause).flights) o i d cause h last same f k.once

polls_try : (web : Web) (tries m n : ℕ) (fails : Fails) (o : Flying) (i : ℕ) (d : Flight) (cause : Option Cause) → failing fails (heard_at web (get_or o.flights i d).link) (get_or o.flights i d) ≡ cause → n ≤ m → i < length o.flights → FlightsKept tries o.flights
    → Polls (fetch_of web tries fails) (port_of (m + tries_left tries o.flights) o)
    (polled_try tries (get_or o.flights i d) (heard_at web (get_or o.flights i d).link) cause)
    (port_of (n + tries_left tries (after_try tries o i (get_or o.flights i d) cause).flights) (after_try tries o i (get_or o.flights i d) cause))
polls_try web tries m n fails o i d (Some cause) e le h k =
    polls_failed (fetch_of web tries fails) tries m n o i d cause (nat_lt ((get_or o.flights i d).failed + 1) tries) refl le h refl (may_fail web tries fails (get_or o.flights i d) cause e) k
polls_try web tries m n fails o i d None e le h k =
    polls_answered web tries (m + tries_left tries o.flights) (n + tries_left tries (answered o i).flights) fails o i d (heard_at web (get_or o.flights i d).link) h (not_never _ (answers_cases _ _ _ _ e)) refl k.once

polls_choice : (fetch : Fetch) (p : Port) (q : Flying → Port) (b : Bool) (polled : Polled) (o mid : Flying) → (b ≡ true → Polls fetch p Pending (q o)) → Polls fetch p polled (q mid) → Polls fetch p (if b then Pending else polled) (q (if b then o else mid))
polls_choice fetch p q true polled o mid w k = w refl
polls_choice fetch p q false polled o mid w k = k

is_waiting : (turn : ℕ) → (turn == waiting_turn) ≡ true → turn ≡ 65535
is_waiting turn e = grind (arith, nat_tests)

place_within : (turn : ℕ) (x : Flight) (xs : List Flight) → place_of turn (x ∷ xs) < length (x ∷ xs)
place_within turn x xs = search (arith, Rattle.std.proofs.Common.rules)

polls_turn : (web : Web) (tries : ℕ) (fails : Fails) (turns : List ℕ) (o : Flying) (xs : List Flight) → o.flights ≡ xs → FlightsKept tries o.flights
    → Polls (fetch_of web tries fails) (port_of (length turns + tries_left tries o.flights) o) (polled_turn web tries fails xs (first_turn turns)) (port_of (length (later_turns turns) + tries_left tries (after_turn web tries fails o xs (first_turn turns)).flights) (after_turn web tries fails o xs (first_turn turns)))
polls_turn web tries fails turns o [] e k = (waits_same (fetch_of web tries fails) (length turns + tries_left tries o.flights) (length (later_turns turns) + tries_left tries o.flights) o, e)
polls_turn web tries fails turns o (x ∷ xs) e k =
    let h : place_of (first_turn turns) (x ∷ xs) < length o.flights = subst (λ (ys : List Flight). place_of (first_turn turns) (x ∷ xs) < length ys) (sym e) (place_within (first_turn turns) x xs) in
    polls_choice (fetch_of web tries fails) (port_of (length turns + tries_left tries o.flights) o) (λ (u : Flying). port_of (length (later_turns turns) + tries_left tries u.flights) u) (first_turn turns == waiting_turn)
    (polled_lane web tries fails (x ∷ xs) (place_of (first_turn turns) (x ∷ xs))) o (after_lane web tries fails o (place_of (first_turn turns) (x ∷ xs)))
    (λ t.
    let l = turn_less turns (is_waiting (first_turn turns) t) in
    (waits_same (fetch_of web tries fails) (length turns + tries_left tries o.flights) (length (later_turns turns) + tries_left tries o.flights) o, (λ z. let u = sym z ∙ e in absurd (cc)), omega arith))
    (subst (λ (ys : List Flight). Polls (fetch_of web tries fails) (port_of (length turns + tries_left tries o.flights) o) (polled_lane web tries fails ys (place_of (first_turn turns) (x ∷ xs))) (port_of (length (later_turns turns) + tries_left tries (after_lane web tries fails o (place_of (first_turn turns) (x ∷ xs))).flights) (after_lane web tries fails o (place_of (first_turn turns) (x ∷ xs))))) e
    (polls_try web tries (length turns) (length (later_turns turns)) fails o (place_of (first_turn turns) (x ∷ xs)) (fresh 0 []) (failing fails (heard_at web (flight_at o.flights (place_of (first_turn turns) (x ∷ xs))).link) (flight_at o.flights (place_of (first_turn turns) (x ∷ xs)))) refl (later_less turns) h k))

pub polls_next : (f : Fetching) → FlightsKept f.tries f.flying.flights → Polls (fetch_of f.web f.tries f.fails) (fetching_port f) (next_polled f) (fetching_port (after_poll f))
polls_next f k = polls_turn f.web f.tries f.fails f.turns f.flying f.flying.flights refl k

-- ---- what a poll keeps

kept_failed : (tries : ℕ) (o : Flying) (i : ℕ) (d : Flight) (cause : Cause) (b : Bool) → nat_lt ((get_or o.flights i d).failed + 1) tries ≡ b → FlightsKept tries o.flights → FlightsKept tries (if b then retried o i (get_or o.flights i d) cause else given_up o i cause).flights
kept_failed tries o i d cause true e k = kept_set tries o.flights i d cause k (grind (arith, nat_tests))
kept_failed tries o i d cause false e k = kept_remove tries o.flights i k

kept_try : (tries : ℕ) (o : Flying) (i : ℕ) (d : Flight) (cause : Option Cause) → FlightsKept tries o.flights → FlightsKept tries (after_try tries o i (get_or o.flights i d) cause).flights
kept_try tries o i d (Some cause) k = kept_failed tries o i d cause (nat_lt ((get_or o.flights i d).failed + 1) tries) refl k
kept_try tries o i d None k = kept_remove tries o.flights i k

kept_choice : (tries : ℕ) (b : Bool) (o mid : Flying) → FlightsKept tries o.flights → FlightsKept tries mid.flights → FlightsKept tries (if b then o else mid).flights
kept_choice tries true o mid k l = k
kept_choice tries false o mid k l = l

pub kept_turn : (web : Web) (tries : ℕ) (fails : Fails) (o : Flying) (xs : List Flight) (turn : ℕ) → FlightsKept tries o.flights → FlightsKept tries (after_turn web tries fails o xs turn).flights
kept_turn web tries fails o [] turn k = k
kept_turn web tries fails o (x ∷ xs) turn k =
    kept_choice tries (turn == waiting_turn) o (after_lane web tries fails o (place_of turn (x ∷ xs))) k
    (kept_try tries o (place_of turn (x ∷ xs)) (fresh 0 []) (failing fails (heard_at web (flight_at o.flights (place_of turn (x ∷ xs))).link) (flight_at o.flights (place_of turn (x ∷ xs)))) k)

-- ---- the clauses of a poll

pub ok_polls : (r : Result Polled Memory) (f new : Fetching) → FlightsKept f.tries f.flying.flights → IfOk r (λ polled. polled ≡ next_polled f) → OnOk r (new ≡ after_poll f)
    → IfOk r (λ polled. Polls (fetch_of f.web f.tries f.fails) (fetching_port f) polled (fetching_port new))
ok_polls (Ok polled) f new k p s = rw (p, s) (polls_next f k)
ok_polls (Err e) f new k p s = tt

pub err_waits : (r : Result Polled Memory) (f new : Fetching) → OnErr r (new ≡ f) → OnErr r (Waits (fetch_of f.web f.tries f.fails) (fetching_port f) (fetching_port new))
err_waits (Ok polled) f new s = tt
err_waits (Err e) f new s = rw s (waits_same (fetch_of f.web f.tries f.fails) _ _ f.flying)

pub same_fetch : (r : Result Polled Memory) (f new : Fetching) → OnOk r (new ≡ after_poll f) → OnErr r (new ≡ f)
    → (fetch_of new.web new.tries new.fails ≡ fetch_of f.web f.tries f.fails) × (new.lanes ≡ f.lanes)
same_fetch (Ok polled) f new s e = rw s (refl, refl)
same_fetch (Err e) f new s u = rw u (refl, refl)

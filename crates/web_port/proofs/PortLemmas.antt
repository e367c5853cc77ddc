-- Polls one after another, and what a poll keeps.
use Rattle.std.proofs.Common.{ℕ, ◌≡◌, ◌≢◌, ◌⊎◌, ◌+◌, ◌<◌, ◌≤◌, List, [], ◌∷◌, ◌++◌, refl, sym, ◌∙◌, ap, subst, inl, inr, arith, length}
use Rattle.std.specs.Prelude.{if◌then◌else◌, ◌==◌}
use Rattle.std.proofs.lemmas.Bool.Decides.{nat_tests}
use Rattle.rdf_terms.specs.Lists.{IsIn, Apart}
use Rattle.rdf_terms.proofs.Members.{in_map, from_map}
use Rattle.reachability.specs.Web.{Fetch, NeverHeard}
use Rattle.web_port.specs.declared.flight.Flight.{Flight}
use Rattle.web_port.specs.declared.fetcher.Got.{Got}
use Rattle.web_port.specs.Flights.{flight_number, numbers, failed_tries, without, fresh}
use Rattle.web_port.specs.Port.{Port, Goes, AllGo, Turns, Lands, Waits, Starts, lost_by, PortKept}

pub go_none : (fetch : Fetch) (xs : List Flight) → AllGo fetch xs xs
go_none fetch [] = tt
go_none fetch (x ∷ xs) = (record { number = refl; link = refl; risen = omega arith; same = λ e. refl; sure = λ s h. absurd (omega arith) }, go_none fetch xs)

below_or : (m n : ℕ) → (m < n) ⊎ (n ≤ m)
below_or m n = grind (arith, nat_tests)

pub goes_on : (fetch : Fetch) (x y z : Flight) → Goes fetch x y → Goes fetch y z → Goes fetch x z
goes_on fetch x y z a b =
    let r = a.risen in
    let s = b.risen in
    record {
      number = b.number ∙ a.number;
      link = b.link ∙ a.link;
      risen = omega arith;
      same = λ e. let u : y.failed ≡ x.failed = omega arith in let v : z.failed ≡ y.failed = omega arith in b.same v ∙ a.same u;
      sure = λ t h.
          elim (below_or x.failed y.failed) [
            | inl l ↦ a.sure t l
            | inr m ↦ subst (λ (u : List ℕ). NeverHeard fetch.web u) a.link (b.sure t (omega arith))
          ];
    }

pub go_on : (fetch : Fetch) (xs ys zs : List Flight) → AllGo fetch xs ys → AllGo fetch ys zs → AllGo fetch xs zs
go_on fetch [] [] zs a b = b
go_on fetch [] (y ∷ ys) zs a b = absurd a
go_on fetch (x ∷ xs) [] zs a b = absurd a
go_on fetch (x ∷ xs) (y ∷ ys) [] a b = absurd b
go_on fetch (x ∷ xs) (y ∷ ys) (z ∷ zs) a b = (goes_on fetch x y z a.0 b.0, go_on fetch xs ys zs a.1 b.1)

pub go_numbers : (fetch : Fetch) (xs ys : List Flight) → AllGo fetch xs ys → numbers ys ≡ numbers xs
go_numbers fetch [] [] a = refl
go_numbers fetch [] (y ∷ ys) a = absurd a
go_numbers fetch (x ∷ xs) [] a = absurd a
go_numbers fetch (x ∷ xs) (y ∷ ys) a = let e = go_numbers fetch xs ys a.1 in rw (a.0.number, e) refl

pub go_length : (fetch : Fetch) (xs ys : List Flight) → AllGo fetch xs ys → length ys ≡ length xs
go_length fetch [] [] a = refl
go_length fetch [] (y ∷ ys) a = absurd a
go_length fetch (x ∷ xs) [] a = absurd a
go_length fetch (x ∷ xs) (y ∷ ys) a = let e = go_length fetch xs ys a.1 in omega arith

pub go_risen : (fetch : Fetch) (xs ys : List Flight) → AllGo fetch xs ys → failed_tries xs ≤ failed_tries ys
go_risen fetch [] [] a = omega arith
go_risen fetch [] (y ∷ ys) a = absurd a
go_risen fetch (x ∷ xs) [] a = absurd a
go_risen fetch (x ∷ xs) (y ∷ ys) a = let e = go_risen fetch xs ys a.1 in let r = a.0.risen in omega arith

pub go_empty : (fetch : Fetch) (xs ys : List Flight) → AllGo fetch xs ys → ys ≡ [] → xs ≡ []
go_empty fetch [] ys a e = refl
go_empty fetch (x ∷ xs) [] a e = absurd a
go_empty fetch (x ∷ xs) (y ∷ ys) a e = absurd (cc)

pub go_from : (fetch : Fetch) (xs ys : List Flight) (y : Flight) → AllGo fetch xs ys → IsIn ys y → (x : Flight) × IsIn xs x × Goes fetch x y
go_from fetch [] [] y a h = absurd h
go_from fetch [] (z ∷ zs) y a h = absurd a
go_from fetch (x ∷ xs) [] y a h = absurd a
go_from fetch (x ∷ xs) (z ∷ zs) y a (inl e) = (x, inl refl, subst (λ (w : Flight). Goes fetch x w) e a.0)
go_from fetch (x ∷ xs) (z ∷ zs) y a (inr h) = let r = go_from fetch xs zs y a.1 h in (r.0, inr r.1, r.2)

pub waits_none : (fetch : Fetch) (p : Port) → Waits fetch p p
waits_none fetch p = record { turns = record { all = go_none fetch p.flights; charged = omega arith; starts = refl }; counts = λ c. refl }

turns_on : (fetch : Fetch) (p q r : Port) (mid : List Flight) → Turns fetch p q.flights q → Turns fetch q mid r → Turns fetch p mid r
turns_on fetch p q r mid a b =
    let x = a.charged in
    let y = b.charged in
    record { all = go_on fetch p.flights q.flights mid a.all b.all; charged = omega arith; starts = b.starts ∙ a.starts }

pub waits_on : (fetch : Fetch) (p q r : Port) → Waits fetch p q → Waits fetch q r → Waits fetch p r
waits_on fetch p q r a b = record { turns = turns_on fetch p q r r.flights a.turns b.turns; counts = λ c. b.counts c ∙ a.counts c }

pub lands_on : (fetch : Fetch) (p q r : Port) (n : ℕ) (got : Got) → Waits fetch p q → Lands fetch q n got r → Lands fetch p n got r
lands_on fetch p q r n got a b = record {
  flight = b.flight;
  mid = b.mid;
  turns = turns_on fetch p q r b.mid a.turns b.turns;
  flew = b.flew;
  names = b.names;
  rest = b.rest;
  gives = b.gives;
  counts = λ c. b.counts c ∙ ap (λ (k : ℕ). k + lost_by got c) (a.counts c);
}

pub waits_idle : (fetch : Fetch) (p q : Port) → Waits fetch p q → q.flights ≡ [] → p.flights ≡ []
waits_idle fetch p q a e = go_empty fetch p.flights q.flights a.turns.all e

-- lists of open links

pick_list : (a n : ℕ) (xs ys : List Flight) → ((a ≡ n) × ((if a == n then xs else ys) ≡ xs)) ⊎ ((a ≢ n) × ((if a == n then xs else ys) ≡ ys))
pick_list a n xs ys = grind (arith, nat_tests)

pub without_cases : (x : Flight) (xs : List Flight) (n : ℕ) → ((x.number ≡ n) × (without n (x ∷ xs) ≡ xs)) ⊎ ((x.number ≢ n) × (without n (x ∷ xs) ≡ x ∷ without n xs))
without_cases x xs n = pick_list x.number n xs (x ∷ without n xs)

pub in_without : (fl : List Flight) (n : ℕ) (y : Flight) → Apart (numbers fl) → IsIn (without n fl) y → (y.number ≢ n) × IsIn fl y
in_without [] n y a h = absurd h
in_without (x ∷ xs) n y a h =
    elim (without_cases x xs n) [
      | inl p ↦
          let i : IsIn xs y = subst (λ (l : List Flight). IsIn l y) p.1 h in
          ((λ e. a.0 (subst (λ (w : ℕ). IsIn (numbers xs) w) (e ∙ sym p.0) (in_map flight_number xs y i))), inr i)
      | inr q ↦ elim (subst (λ (l : List Flight). IsIn l y) q.1 h) [
        | inl e ↦ ((λ d. q.0 (ap flight_number e ∙ d)), inl e)
        | inr i ↦ let r = in_without xs n y a.1 i in (r.0, inr r.1)
      ]
    ]

pub apart_without : (fl : List Flight) (n : ℕ) → Apart (numbers fl) → Apart (numbers (without n fl))
apart_without [] n a = tt
apart_without (x ∷ xs) n a =
    elim (without_cases x xs n) [
      | inl p ↦ subst (λ (l : List Flight). Apart (numbers l)) (sym p.1) a.1
      | inr q ↦ subst (λ (l : List Flight). Apart (numbers l)) (sym q.1) (
        (λ h. let r = from_map flight_number (without n xs) x.number h in a.0 (subst (λ (w : ℕ). IsIn (numbers xs) w) r.2 (in_map flight_number xs r.0 (in_without xs n r.0 a.1 r.1).1))),
        apart_without xs n a.1,
      )
    ]

pub length_without : (fl : List Flight) (x : Flight) → IsIn fl x → length (without x.number fl) + 1 ≡ length fl
length_without [] y h = absurd h
length_without (x ∷ xs) y h =
    elim (without_cases x xs y.number) [
      | inl p ↦ let e = ap length p.1 in omega arith
      | inr q ↦ elim h [
        | inl e ↦ absurd (q.0 (ap flight_number e))
        | inr i ↦ let r = length_without xs y i in let e = ap length q.1 in omega arith
      ]
    ]

-- with numbers that differ, the failed tries of the link that is taken out are no longer counted
pub failed_without : (fl : List Flight) (x : Flight) → Apart (numbers fl) → IsIn fl x → failed_tries (without x.number fl) + x.failed ≡ failed_tries fl
failed_without [] y a h = absurd h
failed_without (x ∷ xs) y a h =
    elim (without_cases x xs y.number) [
      | inl p ↦ elim h [
        | inl e ↦ let f = ap failed_tries p.1 in let d = ap (λ (w : Flight). w.failed) e in omega arith
        | inr i ↦ absurd (a.0 (subst (λ (w : ℕ). IsIn (numbers xs) w) (sym p.0) (in_map flight_number xs y i)))
      ]
      | inr q ↦ elim h [
        | inl e ↦ absurd (q.0 (ap flight_number e))
        | inr i ↦ let r = failed_without xs y a.1 i in let f = ap failed_tries q.1 in omega arith
      ]
    ]

-- ---- one more link, anywhere among the others

length_insert : (xs ys : List Flight) (y : Flight) → length (xs ++ y ∷ ys) ≡ length (xs ++ ys) + 1
length_insert [] ys y = omega arith
length_insert (a ∷ xs) ys y = let r = length_insert xs ys y in omega arith

failed_insert : (xs ys : List Flight) (n : ℕ) (u : List ℕ) → failed_tries (xs ++ fresh n u ∷ ys) ≡ failed_tries (xs ++ ys)
failed_insert [] ys n u = omega arith
failed_insert (a ∷ xs) ys n u = let r = failed_insert xs ys n u in omega arith

from_insert : (xs ys : List Flight) (y x : Flight) → IsIn (xs ++ y ∷ ys) x → (y ≡ x) ⊎ IsIn (xs ++ ys) x
from_insert [] ys y x h = h
from_insert (a ∷ xs) ys y x (inl e) = inr (inl e)
from_insert (a ∷ xs) ys y x (inr h) = elim (from_insert xs ys y x h) [ inl e ↦ inl e | inr i ↦ inr (inr i) ]

apart_insert : (xs ys : List Flight) (y : Flight) → Apart (numbers (xs ++ ys)) → (IsIn (numbers (xs ++ ys)) y.number → ⊥) → Apart (numbers (xs ++ y ∷ ys))
apart_insert [] ys y k new = (new, k)
apart_insert (a ∷ xs) ys y k new = (
  (λ h.
      let r = from_map flight_number (xs ++ y ∷ ys) a.number h in
      elim (from_insert xs ys y r.0 r.1) [
        | inl e ↦ new (inl (sym r.2 ∙ sym (ap flight_number e)))
        | inr i ↦ k.0 (subst (λ (w : ℕ). IsIn (numbers (xs ++ ys)) w) r.2 (in_map flight_number (xs ++ ys) r.0 i))
      ]),
  apart_insert xs ys y k.1 (λ h. new (inr h)),
)

-- a link that is open after a start is the one that was started, or was open before
pub from_start : (p q : Port) (n : ℕ) (text : List ℕ) (x : Flight) → Starts p n text q → IsIn q.flights x → (fresh n text ≡ x) ⊎ IsIn p.flights x
from_start p q n text x s h =
    elim (from_insert s.ahead s.behind (fresh n text) x (subst (λ (fl : List Flight). IsIn fl x) s.flights h)) [
      | inl e ↦ inl e
      | inr i ↦ inr (subst (λ (fl : List Flight). IsIn fl x) (sym s.were) i)
    ]

pub length_starts : (p q : Port) (n : ℕ) (text : List ℕ) → Starts p n text q → length q.flights ≡ length p.flights + 1
length_starts p q n text s =
    let a = ap length s.flights in
    let b = ap length s.were in
    let c = length_insert s.ahead s.behind (fresh n text) in
    omega arith

pub failed_starts : (p q : Port) (n : ℕ) (text : List ℕ) → Starts p n text q → failed_tries q.flights ≡ failed_tries p.flights
failed_starts p q n text s =
    ap failed_tries s.flights ∙ (failed_insert s.ahead s.behind n text ∙ sym (ap failed_tries s.were))

-- what a fetcher keeps of what it has open

pub kept_gone : (fetch : Fetch) (lanes : ℕ) (xs ys : List Flight) → AllGo fetch xs ys → PortKept fetch lanes xs → PortKept fetch lanes ys
kept_gone fetch lanes xs ys a k =
    let w = k.within in
    let l = go_length fetch xs ys a in
    record {
      once = subst (λ (ns : List ℕ). Apart ns) (sym (go_numbers fetch xs ys a)) k.once;
      never = λ y h s f.
          let r = go_from fetch xs ys y a h in
          subst (λ (u : List ℕ). NeverHeard fetch.web u) (sym r.2.link)
          (elim (below_or r.0.failed y.failed) [
            | inl l ↦ r.2.sure s l
            | inr m ↦ k.never r.0 r.1 s (omega arith)
          ]);
      within = omega arith;
    }

length_less : (n : ℕ) (xs : List Flight) → length (without n xs) ≤ length xs
length_less n [] = omega arith
length_less n (x ∷ xs) =
    let r = length_less n xs in
    elim (without_cases x xs n) [
      | inl p ↦ let e = ap length p.1 in omega arith
      | inr q ↦ let e = ap length q.1 in omega arith
    ]

pub kept_without : (fetch : Fetch) (lanes : ℕ) (xs : List Flight) (n : ℕ) → PortKept fetch lanes xs → PortKept fetch lanes (without n xs)
kept_without fetch lanes xs n k =
    let w = k.within in
    let l = length_less n xs in
    record {
      once = apart_without xs n k.once;
      never = λ y h. k.never y (in_without xs n y k.once h).1;
      within = omega arith;
    }

pub kept_lands : (fetch : Fetch) (lanes : ℕ) (p q : Port) (n : ℕ) (got : Got) → Lands fetch p n got q → PortKept fetch lanes p.flights → PortKept fetch lanes q.flights
kept_lands fetch lanes p q n got l k =
    subst (λ (xs : List Flight). PortKept fetch lanes xs) (sym l.rest) (kept_without fetch lanes l.mid n (kept_gone fetch lanes p.flights l.mid l.turns.all k))

pub kept_starts : (fetch : Fetch) (lanes : ℕ) (p q : Port) (n : ℕ) (text : List ℕ) → Starts p n text q → (IsIn (numbers p.flights) n → ⊥) → length p.flights < lanes → PortKept fetch lanes p.flights → PortKept fetch lanes q.flights
kept_starts fetch lanes p q n text s new room k =
    let len = length_starts p q n text s in
    record {
      once = subst (λ (fl : List Flight). Apart (numbers fl)) (sym s.flights)
          (apart_insert s.ahead s.behind (fresh n text) (subst (λ (fl : List Flight). Apart (numbers fl)) s.were k.once) (subst (λ (fl : List Flight). IsIn (numbers fl) n → ⊥) s.were new));
      never = λ x h t f.
          elim (from_start p q n text x s h) [
            | inl e ↦ let g = ap (λ (y : Flight). y.failed) e in absurd (omega arith)
            | inr i ↦ k.never x i t f
          ];
      within = omega arith;
    }

-- the same over an equation of the fetcher's settings
pub waits_more : (fetch f : Fetch) (p q r : Port) → f ≡ fetch → Waits fetch p q → Waits f q r → Waits fetch p r
waits_more fetch f p q r e a b = waits_on fetch p q r a (subst (λ (x : Fetch). Waits x q r) e b)

pub lands_more : (fetch f : Fetch) (p q r : Port) (n : ℕ) (got : Got) → f ≡ fetch → Waits fetch p q → Lands f q n got r → Lands fetch p n got r
lands_more fetch f p q r n got e a b = lands_on fetch p q r n got a (subst (λ (x : Fetch). Lands x q n got r) e b)

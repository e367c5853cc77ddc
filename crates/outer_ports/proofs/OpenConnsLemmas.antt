-- The open connections of a wire in memory, where one is opened, changes or is closed.
use Rattle.std.proofs.Common.{ℕ, zero, suc, ◌≡◌, ◌≢◌, ◌⊎◌, ◌+◌, ◌<◌, ◌≤◌, List, [], ◌∷◌, ◌++◌, Option, Some, None, IsSome, refl, sym, ◌∙◌, ap, subst, inl, inr, arith, length, get_or, set}
use Rattle.std.specs.Prelude.{option_map, if◌then◌else◌, ◌==◌, not, filter}
use Rattle.std.proofs.lemmas.Bool.Decides.{nat_tests}
use Rattle.outer_ports.specs.declared.open_conns.OpenConn.{OpenConn}
use Rattle.outer_ports.specs.MemoryWire.{open_in, BecomesAt, NumbersRise, WaitsLongest}

pick : (a n : ℕ) (x y : Option OpenConn) → ((a ≡ n) × ((if a == n then x else y) ≡ x)) ⊎ ((a ≢ n) × ((if a == n then x else y) ≡ y))
pick a n x y = grind (arith, nat_tests)

pub open_cases : (o : OpenConn) (os : List OpenConn) (n : ℕ) → ((o.number ≡ n) × (open_in (o ∷ os) n ≡ Some o)) ⊎ ((o.number ≢ n) × (open_in (o ∷ os) n ≡ open_in os n))
open_cases o os n = pick o.number n (Some o) (open_in os n)

-- behind one connection, two lists that have the same at a number
under : (o : OpenConn) (os ps : List OpenConn) (n : ℕ) → open_in os n ≡ open_in ps n → open_in (o ∷ os) n ≡ open_in (o ∷ ps) n
under o os ps n e = ap (λ (r : Option OpenConn). if o.number == n then Some o else r) e

-- ---- the place of a number

-- no connection below a place has the number
abbrev pub NoneBelow : List OpenConn → ℕ → ℕ → Type 0
NoneBelow os n at = (k : ℕ) (d : OpenConn) → k < at → (get_or os k d).number ≢ n

pub found : (os : List OpenConn) (n at : ℕ) (y d : OpenConn) → at < length os → NoneBelow os n at → (get_or os at y).number ≡ n → open_in os n ≡ Some (get_or os at d)
found [] n at y d h nb e = absurd (omega arith)
found (x ∷ xs) n zero y d h nb e = elim (open_cases x xs n) [ inl p ↦ p.1 | inr q ↦ absurd (q.0 e) ]
found (x ∷ xs) n (suc at) y d h nb e =
    elim (open_cases x xs n) [
      | inl p ↦ absurd (nb zero x (omega arith) p.0)
      | inr q ↦ q.1 ∙ found xs n at y d (omega arith) (λ k z l. nb (suc k) z (omega arith)) e
    ]

-- where none was found yet, there are more
pub goes_on : (os : List OpenConn) (n at : ℕ) → IsSome (open_in os n) → NoneBelow os n at → at < length os
goes_on [] n at s nb = absurd (cc (s))
goes_on (x ∷ xs) n zero s nb = omega arith
goes_on (x ∷ xs) n (suc at) s nb =
    elim (open_cases x xs n) [
      | inl p ↦ absurd (nb zero x (omega arith) p.0)
      | inr q ↦
          let r = goes_on xs n at (subst (λ (r : Option OpenConn). IsSome r) q.1 s) (λ k z l. nb (suc k) z (omega arith)) in
          omega arith
    ]

same_at : (os : List OpenConn) (at : ℕ) (d y : OpenConn) → at < length os → get_or os at d ≡ get_or os at y
same_at [] at d y h = absurd (omega arith)
same_at (x ∷ xs) zero d y h = refl
same_at (x ∷ xs) (suc at) d y h = same_at xs at d y (omega arith)

below_or_at : (k at : ℕ) → k < at + 1 → (k < at) ⊎ (k ≡ at)
below_or_at k at h = grind (arith, nat_tests)

-- none below the next place either
pub none_more : (os : List OpenConn) (n at : ℕ) (y : OpenConn) → NoneBelow os n at → at < length os → (get_or os at y).number ≢ n → NoneBelow os n (at + 1)
none_more os n at y nb h ne = λ k d l e.
    elim (below_or_at k at l) [
      | inl m ↦ nb k d m e
      | inr i ↦ ne (subst (λ (o : OpenConn). o.number ≡ n) (same_at os at d y h) (subst (λ (j : ℕ). (get_or os j d).number ≡ n) i e))
    ]

pub becomes_set : (os : List OpenConn) (n at : ℕ) (y o : OpenConn) → at < length os → NoneBelow os n at → (get_or os at y).number ≡ n → o.number ≡ n → BecomesAt os n o (set os at o)
becomes_set [] n at y o h nb e f = absurd (omega arith)
becomes_set (x ∷ xs) n zero y o h nb e f = record {
  at = elim (open_cases o xs n) [ inl p ↦ p.1 | inr q ↦ absurd (q.0 f) ];
  others = λ k ne. elim (open_cases o xs k) [
    | inl p ↦ absurd (ne (sym p.0 ∙ f))
    | inr q ↦ elim (open_cases x xs k) [ inl r ↦ absurd (ne (sym r.0 ∙ e)) | inr r ↦ q.1 ∙ sym r.1 ]
  ];
}
becomes_set (x ∷ xs) n (suc at) y o h nb e f =
    let r = becomes_set xs n at y o (omega arith) (λ k z l. nb (suc k) z (omega arith)) e f in
    record {
      at = elim (open_cases x (set xs at o) n) [ inl p ↦ absurd (nb zero x (omega arith) p.0) | inr q ↦ q.1 ∙ r.at ];
      others = λ k ne. under x (set xs at o) xs k (r.others k ne);
    }

pub some_at : (os : List OpenConn) (i : ℕ) (d : OpenConn) → i < length os → IsSome (open_in os (get_or os i d).number)
some_at [] i d h = absurd (omega arith)
some_at (x ∷ xs) zero d h = elim (open_cases x xs x.number) [ inl p ↦ subst (λ (r : Option OpenConn). IsSome r) (sym p.1) refl | inr q ↦ absurd (q.0 refl) ]
some_at (x ∷ xs) (suc i) d h =
    elim (open_cases x xs (get_or xs i d).number) [
      | inl p ↦ subst (λ (r : Option OpenConn). IsSome r) (sym p.1) refl
      | inr q ↦ subst (λ (r : Option OpenConn). IsSome r) (sym q.1) (some_at xs i d (omega arith))
    ]

pub not_empty : (os : List OpenConn) (n : ℕ) → IsSome (open_in os n) → 0 < length os
not_empty [] n s = absurd (cc (s))
not_empty (x ∷ xs) n s = omega arith

-- ---- one more

from_below : (from next : ℕ) (os : List OpenConn) → NumbersRise from next os → from ≤ next
from_below from next [] a = a
from_below from next (x ∷ xs) a = let l = a.0 in let r = from_below (x.number + 1) next xs a.1 in omega arith

pub none_above : (from next n : ℕ) (os : List OpenConn) → NumbersRise from next os → next ≤ n → open_in os n ≡ None
none_above from next n [] a h = refl
none_above from next n (x ∷ xs) a h =
    elim (open_cases x xs n) [
      | inl p ↦ let e = p.0 in let b = from_below (x.number + 1) next xs a.1 in absurd (omega arith)
      | inr q ↦ q.1 ∙ none_above (x.number + 1) next n xs a.1 h
    ]

pub becomes_push : (os : List OpenConn) (n : ℕ) (o : OpenConn) → open_in os n ≡ None → o.number ≡ n → BecomesAt os n o (os ++ o ∷ [])
becomes_push [] n o e f = record {
  at = elim (open_cases o [] n) [ inl p ↦ p.1 | inr q ↦ absurd (q.0 f) ];
  others = λ k ne. elim (open_cases o [] k) [ inl p ↦ absurd (ne (sym p.0 ∙ f)) | inr q ↦ q.1 ];
}
becomes_push (x ∷ xs) n o e f =
    elim (open_cases x xs n) [
      | inl p ↦ absurd (cc (p.1, e))
      | inr q ↦
          let r = becomes_push xs n o (sym q.1 ∙ e) f in
          record {
            at = elim (open_cases x (xs ++ o ∷ []) n) [ inl p ↦ absurd (q.0 p.0) | inr s ↦ s.1 ∙ r.at ];
            others = λ k ne. under x (xs ++ o ∷ []) xs k (r.others k ne);
          }
    ]

-- ---- numbers that rise

pub rise_push : (from next : ℕ) (os : List OpenConn) (o : OpenConn) → NumbersRise from next os → o.number ≡ next → NumbersRise from (next + 1) (os ++ o ∷ [])
rise_push from next [] o a e = (omega arith, omega arith)
rise_push from next (x ∷ xs) o a e = (a.0, rise_push (x.number + 1) next xs o a.1 e)

-- a changed connection keeps its number
pub rise_set : (from next : ℕ) (os : List OpenConn) (i : ℕ) (o : OpenConn) → NumbersRise from next os → i < length os → o.number ≡ (get_or os i o).number → NumbersRise from next (set os i o)
rise_set from next [] i o a h e = absurd (omega arith)
rise_set from next (x ∷ xs) zero o a h e = subst (λ (n : ℕ). (from ≤ n) × NumbersRise (n + 1) next xs) (sym e) a
rise_set from next (x ∷ xs) (suc i) o a h e = (a.0, rise_set (x.number + 1) next xs i o a.1 (omega arith) e)

rise_from : (low from next : ℕ) (os : List OpenConn) → low ≤ from → NumbersRise from next os → NumbersRise low next os
rise_from low from next [] l a = omega arith
rise_from low from next (x ∷ xs) l a = (let b = a.0 in omega arith, a.1)

at_least : (from next : ℕ) (os : List OpenConn) (i : ℕ) (d : OpenConn) → NumbersRise from next os → i < length os → from ≤ (get_or os i d).number
at_least from next [] i d a h = absurd (omega arith)
at_least from next (x ∷ xs) zero d a h = a.0
at_least from next (x ∷ xs) (suc i) d a h = let l = a.0 in let r = at_least (x.number + 1) next xs i d a.1 (omega arith) in omega arith

-- each is the open connection of its number
own_number : (from next : ℕ) (os : List OpenConn) (i : ℕ) (d : OpenConn) → NumbersRise from next os → i < length os → open_in os (get_or os i d).number ≡ Some (get_or os i d)
own_number from next [] i d a h = absurd (omega arith)
own_number from next (x ∷ xs) zero d a h = elim (open_cases x xs x.number) [ inl p ↦ p.1 | inr q ↦ absurd (q.0 refl) ]
own_number from next (x ∷ xs) (suc i) d a h =
    elim (open_cases x xs (get_or xs i d).number) [
      | inl p ↦ let e = p.0 in let l = at_least (x.number + 1) next xs i d a.1 (omega arith) in absurd (omega arith)
      | inr q ↦ q.1 ∙ own_number (x.number + 1) next xs i d a.1 (omega arith)
    ]

-- ---- who waits longest

place_in : (os : List OpenConn) (k : ℕ) (o d : OpenConn) → open_in os k ≡ Some o → (i : ℕ) × (i < length os) × (get_or os i d ≡ o)
place_in [] k o d e = absurd (cc (e))
place_in (x ∷ xs) k o d e =
    elim (open_cases x xs k) [
      | inl p ↦ (zero, omega arith, cc (p.1, e))
      | inr q ↦ let r = place_in xs k o d (sym q.1 ∙ e) in (suc r.0, let l = r.1 in omega arith, r.2)
    ]

open_since : (r : Option OpenConn) (since : ℕ) → option_map (λ (o : OpenConn). o.since) r ≡ Some since → (o : OpenConn) × (r ≡ Some o) × (since ≡ o.since)
open_since None since e = absurd (cc (e))
open_since (Some o) since e = (o, refl, cc (e))

-- where none waits since an earlier call at any place, none does under any number
pub waits_longest : (next : ℕ) (os : List OpenConn) (i : ℕ) (d : OpenConn) → NumbersRise 0 next os → i < length os
    → ((k : ℕ) (y : OpenConn) → k < length os → (get_or os i y).since ≤ (get_or os k y).since)
    → WaitsLongest os (get_or os i d).number
waits_longest next os i d a h least = record {
  since = (get_or os i d).since;
  is_open = ap (option_map (λ (o : OpenConn). o.since)) (own_number 0 next os i d a h);
  longest = λ k since e.
      let is = open_since (open_in os k) since e in
      let at = place_in os k is.0 d is.1 in
      let l : (get_or os i d).since ≤ is.0.since = subst (λ (o : OpenConn). (get_or os i d).since ≤ o.since) at.2 (least at.0 d at.1) in
      subst (λ (s : ℕ). (get_or os i d).since ≤ s) (sym is.2) l;
}

-- ---- without one

-- the connections but for those of a number
abbrev pub others_of : ℕ → List OpenConn → List OpenConn
others_of n os = filter (λ (o : OpenConn). not (o.number == n)) os

pick_list : (a n : ℕ) (xs ys : List OpenConn) → ((a ≡ n) × ((if not (a == n) then xs else ys) ≡ ys)) ⊎ ((a ≢ n) × ((if not (a == n) then xs else ys) ≡ xs))
pick_list a n xs ys = grind (arith, nat_tests)

others_cases : (x : OpenConn) (xs : List OpenConn) (n : ℕ) → ((x.number ≡ n) × (others_of n (x ∷ xs) ≡ others_of n xs)) ⊎ ((x.number ≢ n) × (others_of n (x ∷ xs) ≡ x ∷ others_of n xs))
others_cases x xs n = pick_list x.number n (x ∷ others_of n xs) (others_of n xs)

pub closed : (os : List OpenConn) (n : ℕ) → open_in (others_of n os) n ≡ None
closed [] n = refl
closed (x ∷ xs) n =
    elim (others_cases x xs n) [
      | inl p ↦ subst (λ (ps : List OpenConn). open_in ps n ≡ None) (sym p.1) (closed xs n)
      | inr q ↦ elim (open_cases x (others_of n xs) n) [
        | inl r ↦ absurd (q.0 r.0)
        | inr r ↦ subst (λ (ps : List OpenConn). open_in ps n ≡ None) (sym q.1) (r.1 ∙ closed xs n)
      ]
    ]

pub others_stay : (os : List OpenConn) (n k : ℕ) → k ≢ n → open_in (others_of n os) k ≡ open_in os k
others_stay [] n k ne = refl
others_stay (x ∷ xs) n k ne =
    elim (others_cases x xs n) [
      | inl p ↦ elim (open_cases x xs k) [
        | inl r ↦ absurd (ne (sym r.0 ∙ p.0))
        | inr r ↦ subst (λ (ps : List OpenConn). open_in ps k ≡ open_in (x ∷ xs) k) (sym p.1) (others_stay xs n k ne ∙ sym r.1)
      ]
      | inr q ↦ subst (λ (ps : List OpenConn). open_in ps k ≡ open_in (x ∷ xs) k) (sym q.1) (under x (others_of n xs) xs k (others_stay xs n k ne))
    ]

pub rise_others : (from next n : ℕ) (os : List OpenConn) → NumbersRise from next os → NumbersRise from next (others_of n os)
rise_others from next n [] a = a
rise_others from next n (x ∷ xs) a =
    elim (others_cases x xs n) [
      | inl p ↦ subst (λ (ps : List OpenConn). NumbersRise from next ps) (sym p.1) (rise_from from (x.number + 1) next (others_of n xs) (let l = a.0 in omega arith) (rise_others (x.number + 1) next n xs a.1))
      | inr q ↦ subst (λ (ps : List OpenConn). NumbersRise from next ps) (sym q.1) (a.0, rise_others (x.number + 1) next n xs a.1)
    ]

-- Places, links and states in the rows of a table.
use Rattle.std.proofs.Common.{ℕ, zero, suc, ◌≡◌, ◌≢◌, ◌⊎◌, ◌+◌, ◌<◌, ◌≤◌, List, [], ◌∷◌, ◌++◌, Option, Some, None, Bool, true, false, refl, sym, ◌∙◌, ap, subst, inl, inr, arith, length, take}
use Rattle.std.specs.Option.{option_map}
use Rattle.std.specs.Prelude.{if◌then◌else◌}
use Rattle.std.proofs.lemmas.Option.{same_Some}
use Rattle.rdf_terms.specs.Lists.{IsIn, Apart}
use Rattle.rdf_terms.proofs.Members.{in_map}
use Rattle.link_queue.specs.declared.state.LinkState.{LinkState}
use Rattle.link_queue.specs.declared.state.LinkState.TheVariants.{Queued, InFlight, Settled}
use Rattle.link_queue.specs.Table.{links, link_at, state_at, with_state, first_of, first_queued, flying}
use Rattle.link_queue.specs.LinkStates.{is_queued, is_flying, weight}

pub state_within : {X : Type 0} (rows : List (X × LinkState)) (n : ℕ) (s : LinkState) → state_at rows n ≡ Some s → n < length rows
state_within [] n s h = absurd (cc)
state_within (r ∷ rs) zero s h = omega arith
state_within (r ∷ rs) (suc n) s h = let k = state_within rs n s h in omega arith

-- a new state at a number leaves the links
pub links_with_state : {X : Type 0} (rows : List (X × LinkState)) (n : ℕ) (s : LinkState) → links (with_state rows n s) ≡ links rows
links_with_state [] n s = refl
links_with_state (r ∷ rs) zero s = refl
links_with_state (r ∷ rs) (suc n) s = ap (λ us. r.0 ∷ us) (links_with_state rs n s)

pub length_with_state : {X : Type 0} (rows : List (X × LinkState)) (n : ℕ) (s : LinkState) → length (with_state rows n s) ≡ length rows
length_with_state [] n s = refl
length_with_state (r ∷ rs) zero s = refl
length_with_state (r ∷ rs) (suc n) s = ap (λ k. suc k) (length_with_state rs n s)

pub state_with_state : {X : Type 0} (rows : List (X × LinkState)) (n : ℕ) (s r : LinkState) → state_at rows n ≡ Some s → state_at (with_state rows n r) n ≡ Some r
state_with_state [] n s r h = absurd (cc)
state_with_state (x ∷ xs) zero s r h = refl
state_with_state (x ∷ xs) (suc n) s r h = state_with_state xs n s r h

pub state_cases : {X : Type 0} (rows : List (X × LinkState)) (n k : ℕ) (r s : LinkState) → state_at (with_state rows n r) k ≡ Some s → ((k ≡ n) × (r ≡ s)) ⊎ ((k ≢ n) × (state_at rows k ≡ Some s))
state_cases [] n k r s h = absurd (cc)
state_cases (x ∷ xs) zero zero r s h = inl (refl, same_Some _ _ h)
state_cases (x ∷ xs) zero (suc k) r s h = inr ((λ e. absurd (omega arith)), h)
state_cases (x ∷ xs) (suc n) zero r s h = inr ((λ e. absurd (omega arith)), h)
state_cases (x ∷ xs) (suc n) (suc k) r s h = elim (state_cases xs n k r s h) [ inl p ↦ inl (ap (λ i. suc i) p.0, p.1) | inr q ↦ inr ((λ e. q.0 (omega arith)), q.1) ]

pub link_in : {X : Type 0} (rows : List (X × LinkState)) (n : ℕ) (u : X) → link_at rows n ≡ Some u → IsIn (links rows) u
link_in [] n u h = absurd (cc)
link_in (r ∷ rs) zero u h = inl (same_Some _ _ h)
link_in (r ∷ rs) (suc n) u h = inr (link_in rs n u h)

-- what stands in the rows after a new state at a number: that link with the new state, and the others
pub with_state_cases : {X : Type 0} (rows : List (X × LinkState)) (n : ℕ) (u v : X) (r s : LinkState) → Apart (links rows) → link_at rows n ≡ Some u → IsIn (with_state rows n s) (v, r) → ((v ≡ u) × (r ≡ s)) ⊎ ((v ≢ u) × IsIn rows (v, r))
with_state_cases [] n u v r s a h k = absurd k
with_state_cases (x ∷ xs) zero u v r s a h (inl e) = inl (sym (ap (λ y. y.0) e) ∙ same_Some _ _ h, sym (ap (λ y. y.1) e))
with_state_cases {X} (x ∷ xs) zero u v r s a h (inr k) =
    inr (λ e. a.0 (subst (λ (w : X). IsIn (links xs) w) (e ∙ sym (same_Some _ _ h)) (in_map (λ y. y.0) xs (v, r) k)), inr k)
with_state_cases {X} (x ∷ xs) (suc n) u v r s a h (inl e) =
    inr (λ f. a.0 (subst (λ (w : X). IsIn (links xs) w) (sym f ∙ sym (ap (λ y. y.0) e)) (link_in xs n u h)), inl e)
with_state_cases (x ∷ xs) (suc n) u v r s a h (inr k) =
    elim (with_state_cases xs n u v r s a.1 h k) [ inl p ↦ inl p | inr q ↦ inr (q.0, inr q.1) ]

pub with_state_here : {X : Type 0} (rows : List (X × LinkState)) (n : ℕ) (u : X) (s : LinkState) → link_at rows n ≡ Some u → IsIn (with_state rows n s) (u, s)
with_state_here [] n u s h = absurd (cc)
with_state_here (x ∷ xs) zero u s h = inl (ap (λ w. (w, s)) (same_Some _ _ h))
with_state_here (x ∷ xs) (suc n) u s h = inr (with_state_here xs n u s h)

pub with_state_other : {X : Type 0} (rows : List (X × LinkState)) (n : ℕ) (u v : X) (r s : LinkState) → link_at rows n ≡ Some u → v ≢ u → IsIn rows (v, r) → IsIn (with_state rows n s) (v, r)
with_state_other [] n u v r s h ne k = absurd k
with_state_other (x ∷ xs) zero u v r s h ne (inl e) = absurd (ne (sym (ap (λ y. y.0) e) ∙ same_Some _ _ h))
with_state_other (x ∷ xs) zero u v r s h ne (inr k) = inr k
with_state_other (x ∷ xs) (suc n) u v r s h ne (inl e) = inl e
with_state_other (x ∷ xs) (suc n) u v r s h ne (inr k) = inr (with_state_other xs n u v r s h ne k)

-- a link of the table stands there with one state
pub one_state : {X : Type 0} (rows : List (X × LinkState)) (n : ℕ) (u : X) (r s : LinkState) → Apart (links rows) → link_at rows n ≡ Some u → state_at rows n ≡ Some s → IsIn rows (u, r) → r ≡ s
one_state [] n u r s a l h k = absurd k
one_state (x ∷ xs) zero u r s a l h (inl e) = sym (ap (λ y. y.1) e) ∙ same_Some _ _ h
one_state {X} (x ∷ xs) zero u r s a l h (inr k) = absurd (a.0 (subst (λ (w : X). IsIn (links xs) w) (sym (same_Some _ _ l)) (in_map (λ y. y.0) xs (u, r) k)))
one_state {X} (x ∷ xs) (suc n) u r s a l h (inl e) = absurd (a.0 (subst (λ (w : X). IsIn (links xs) w) (sym (ap (λ y. y.0) e)) (link_in xs n u l)))
one_state (x ∷ xs) (suc n) u r s a l h (inr k) = one_state xs n u r s a.1 l h k

pub link_there : {X : Type 0} (rows : List (X × LinkState)) (n : ℕ) (s : LinkState) → state_at rows n ≡ Some s → (u : X) × (link_at rows n ≡ Some u) × IsIn rows (u, s)
link_there [] n s h = absurd (cc)
link_there (x ∷ xs) zero s h = (x.0, refl, inl (ap (λ t. (x.0, t)) (same_Some _ _ h)))
link_there (x ∷ xs) (suc n) s h = let r = link_there xs n s h in (r.0, r.1, inr r.2)

pub flying_with_state : {X : Type 0} (rows : List (X × LinkState)) (n : ℕ) (r s : LinkState) → state_at rows n ≡ Some s → flying (with_state rows n r) + weight s ≡ flying rows + weight r
flying_with_state [] n r s h = absurd (cc)
flying_with_state (x ∷ xs) zero r s h = let e = ap weight (same_Some _ _ h) in omega arith
flying_with_state (x ∷ xs) (suc n) r s h = let e = flying_with_state xs n r s h in omega arith

-- the first link in a state

-- the test tells the state from the others
pub record TestsFor (test : LinkState → Bool) (state : LinkState) : Type 0 where
  pub yes : test state ≡ true
  pub only : (other : LinkState) → test other ≡ true → other ≡ state

pub queued_test : TestsFor is_queued Queued
queued_test = record { yes = refl; only = only_queued }
  where
    only_queued : (s : LinkState) → is_queued s ≡ true → s ≡ Queued
    only_queued Queued h = refl
    only_queued InFlight h = cc
    only_queued Settled h = cc

pub flying_test : TestsFor is_flying InFlight
flying_test = record { yes = refl; only = only_flying }
  where
    only_flying : (s : LinkState) → is_flying s ≡ true → s ≡ InFlight
    only_flying Queued h = cc
    only_flying InFlight h = refl
    only_flying Settled h = cc

not_true : (b : Bool) → (b ≡ true → ⊥) → b ≡ false
not_true true n = absurd (n refl)
not_true false n = refl

first_here : {X : Type 0} (t : LinkState → Bool) (x : X × LinkState) (xs : List (X × LinkState)) → t x.1 ≡ true → first_of t (x ∷ xs) ≡ Some 0
first_here t x xs h = ap (λ b. if b then Some 0 else option_map suc (first_of t xs)) h

first_later : {X : Type 0} (t : LinkState → Bool) (x : X × LinkState) (xs : List (X × LinkState)) (o : Option ℕ) → t x.1 ≡ false → first_of t xs ≡ o → first_of t (x ∷ xs) ≡ option_map suc o
first_later t x xs o h e = ap (λ b. if b then Some 0 else option_map suc (first_of t xs)) h ∙ ap (option_map suc) e

pub first_found : {X : Type 0} (t : LinkState → Bool) (s : LinkState) (rows : List (X × LinkState)) (i : ℕ) → TestsFor t s → state_at rows i ≡ Some s → ((k : ℕ) → state_at rows k ≡ Some s → i ≤ k) → first_of t rows ≡ Some i
first_found t s [] i tells h n = absurd (cc)
first_found t s (x ∷ xs) zero tells h n = first_here t x xs (ap t (same_Some _ _ h) ∙ tells.yes)
first_found t s (x ∷ xs) (suc i) tells h n =
    first_later t x xs (Some i)
    (not_true (t x.1) (λ e. let z = n 0 (ap (λ (r : LinkState). Some r) (tells.only x.1 e)) in absurd (omega arith)))
    (first_found t s xs i tells h (λ k l. let z = n (suc k) l in omega arith))

pub first_none : {X : Type 0} (t : LinkState → Bool) (s : LinkState) (rows : List (X × LinkState)) → TestsFor t s → ((k : ℕ) → state_at rows k ≡ Some s → length rows ≤ k) → first_of t rows ≡ None
first_none t s [] tells n = refl
first_none t s (x ∷ xs) tells n =
    first_later t x xs None
    (not_true (t x.1) (λ e. let z = n 0 (ap (λ (r : LinkState). Some r) (tells.only x.1 e)) in absurd (omega arith)))
    (first_none t s xs tells (λ k l. let z = n (suc k) l in omega arith))

-- the first place that passes is in the state, and no later than any other

state_later : {X : Type 0} (s : LinkState) (x : X × LinkState) (xs : List (X × LinkState)) (n : ℕ) (o : Option ℕ) → ((m : ℕ) → o ≡ Some m → state_at xs m ≡ Some s) → option_map suc o ≡ Some n → state_at (x ∷ xs) n ≡ Some s
state_later s x xs n None there h = absurd (cc)
state_later s x xs n (Some m) there h = subst (λ (k : ℕ). state_at (x ∷ xs) k ≡ Some s) (same_Some _ _ h) (there m refl)

state_by : {X : Type 0} (t : LinkState → Bool) (s : LinkState) (x : X × LinkState) (xs : List (X × LinkState)) (n : ℕ) (b : Bool) → TestsFor t s → t x.1 ≡ b → ((m : ℕ) → first_of t xs ≡ Some m → state_at xs m ≡ Some s) → (if b then Some 0 else option_map suc (first_of t xs)) ≡ Some n → state_at (x ∷ xs) n ≡ Some s
state_by t s x xs n true tells e there h = subst (λ (k : ℕ). state_at (x ∷ xs) k ≡ Some s) (same_Some _ _ h) (ap (λ (r : LinkState). Some r) (tells.only x.1 e))
state_by t s x xs n false tells e there h = state_later s x xs n (first_of t xs) there h

pub first_state : {X : Type 0} (t : LinkState → Bool) (s : LinkState) (rows : List (X × LinkState)) (n : ℕ) → TestsFor t s → first_of t rows ≡ Some n → state_at rows n ≡ Some s
first_state t s [] n tells h = absurd (cc)
first_state t s (x ∷ xs) n tells h = state_by t s x xs n (t x.1) tells refl (λ m e. first_state t s xs m tells e) h

least_by : {X : Type 0} (t : LinkState → Bool) (s : LinkState) (x : X × LinkState) (xs : List (X × LinkState)) (k : ℕ) (b : Bool) → TestsFor t s → t x.1 ≡ b → ((j : ℕ) → state_at xs j ≡ Some s → (m : ℕ) × (first_of t xs ≡ Some m) × (m ≤ j)) → state_at (x ∷ xs) k ≡ Some s → (m : ℕ) × (first_of t (x ∷ xs) ≡ Some m) × (m ≤ k)
least_by t s x xs k true tells e there h = (0, first_here t x xs e, omega arith)
least_by t s x xs zero false tells e there h = let z = ap t (same_Some _ _ h) ∙ tells.yes in absurd (cc)
least_by t s x xs (suc k) false tells e there h = let q = there k h in let z = q.2 in (suc q.0, first_later t x xs (Some q.0) e q.1, omega arith)

pub first_least : {X : Type 0} (t : LinkState → Bool) (s : LinkState) (rows : List (X × LinkState)) (k : ℕ) → TestsFor t s → state_at rows k ≡ Some s → (m : ℕ) × (first_of t rows ≡ Some m) × (m ≤ k)
first_least t s [] k tells h = absurd (cc)
first_least t s (x ∷ xs) k tells h = least_by t s x xs k (t x.1) tells refl (λ j e. first_least t s xs j tells e) h

pub first_queued_state : {X : Type 0} (rows : List (X × LinkState)) (n : ℕ) → first_queued rows ≡ Some n → state_at rows n ≡ Some Queued
first_queued_state rows n h = first_state is_queued Queued rows n queued_test h

-- rows that go on, and rows cut short

pub state_at_append : {X : Type 0} (xs ys : List (X × LinkState)) (n : ℕ) (s : LinkState) → state_at xs n ≡ Some s → state_at (xs ++ ys) n ≡ Some s
state_at_append [] ys n s h = absurd (cc)
state_at_append (x ∷ xs) ys zero s h = h
state_at_append (x ∷ xs) ys (suc n) s h = state_at_append xs ys n s h

pub link_at_append : {X : Type 0} (xs ys : List (X × LinkState)) (n : ℕ) (u : X) → link_at xs n ≡ Some u → link_at (xs ++ ys) n ≡ Some u
link_at_append [] ys n u h = absurd (cc)
link_at_append (x ∷ xs) ys zero u h = h
link_at_append (x ∷ xs) ys (suc n) u h = link_at_append xs ys n u h

pub append_cases : {X : Type 0} (xs ys : List (X × LinkState)) (n : ℕ) (s : LinkState) → state_at (xs ++ ys) n ≡ Some s → (state_at xs n ≡ Some s) ⊎ (length xs ≤ n)
append_cases [] ys n s h = inr (omega arith)
append_cases (x ∷ xs) ys zero s h = inl h
append_cases (x ∷ xs) ys (suc n) s h = elim (append_cases xs ys n s h) [ inl a ↦ inl a | inr b ↦ inr (omega arith) ]

pub state_take : {X : Type 0} (xs : List (X × LinkState)) (k n : ℕ) (s : LinkState) → state_at (take k xs) n ≡ Some s → state_at xs n ≡ Some s
state_take [] zero n s h = absurd (cc)
state_take [] (suc k) n s h = absurd (cc)
state_take (x ∷ xs) zero n s h = absurd (cc)
state_take (x ∷ xs) (suc k) zero s h = h
state_take (x ∷ xs) (suc k) (suc n) s h = state_take xs k n s h

pub link_at_push : {X : Type 0} (xs : List (X × LinkState)) (u : X) (s : LinkState) → link_at (xs ++ (u, s) ∷ []) (length xs) ≡ Some u
link_at_push [] u s = refl
link_at_push (x ∷ xs) u s = link_at_push xs u s

pub flying_append : {X : Type 0} (xs ys : List (X × LinkState)) → flying (xs ++ ys) ≡ flying xs + flying ys
flying_append [] ys = omega arith
flying_append (x ∷ xs) ys = let r = flying_append xs ys in omega arith

-- The test of a pattern decides whether some assignment gives the triple.
use Rattle.std.proofs.Common.{ℕ, ◌≡◌, ◌⊎◌, Bool, true, false, refl, sym, ◌∙◌, ap, inl, inr, arith}
use Rattle.std.specs.Prelude.{◌==◌, ◌&&◌, if◌then◌else◌}
use Rattle.std.specs.Bool.{Decides}
use Rattle.std.proofs.lemmas.Bool.Decides.{nat_tests}
use Rattle.rdf_terms.specs.declared.term.Term.{Term}
use Rattle.rdf_terms.specs.declared.triple.Triple.{Triple}
use Rattle.rdf_terms.specs.Same.{same_term}
use Rattle.rdf_terms.proofs.Deciding.{term_Decides}
use Rattle.rows_core.specs.declared.pattern.Spot.{Spot}
use Rattle.rows_core.specs.declared.pattern.Spot.TheVariants.{Term as Fixed, Var}
use Rattle.rows_core.specs.declared.pattern.TriplePattern.{TriplePattern}
use Rattle.rows_core.specs.Patterns.{given, Matches, may_be, agree, matches}

pub and_both : (a b : Bool) → (a && b) ≡ true → (a ≡ true) × (b ≡ true)
and_both true b h = (refl, h)
and_both false b h = absurd (cc)

pub both_and : (a b : Bool) → a ≡ true → b ≡ true → (a && b) ≡ true
both_and true b h k = k
both_and false b h k = absurd (cc)

-- the term x at the variable of the spot, if it is one
abbrev pick : Spot → Term → (ℕ → Term) → ℕ → Term
pick (Fixed t) x f v = f v
pick (Var w) x f v = if w == v then x else f v

same_number : {X : Type 0} (v : ℕ) (x y : X) → (if v == v then x else y) ≡ x
same_number v x y = grind (arith, nat_tests)

picked : (s : Spot) (x : Term) (f : ℕ → Term) → may_be s x ≡ true → given (pick s x f) s ≡ x
picked (Fixed t) x f h = (term_Decides t x).0 h
picked (Var v) x f h = same_number v x (f v)

if_other : (b : Bool) (x y z : Term) → (if b then same_term x y else true) ≡ true → z ≡ y → (if b then x else z) ≡ y
if_other true x y z h e = (term_Decides x y).0 h
if_other false x y z h e = e

-- a spot that agrees with the picked one keeps its term
passed : (s p : Spot) (x y : Term) (f : ℕ → Term) → agree s p x y ≡ true → given f p ≡ y → given (pick s x f) p ≡ y
passed (Fixed t) (Fixed u) x y f a e = e
passed (Fixed t) (Var w) x y f a e = e
passed (Var v) (Fixed u) x y f a e = e
passed (Var v) (Var w) x y f a e = if_other (v == w) x y (f w) a e

last_one : (s : Spot) (z : Term) → may_be s z ≡ true → given (λ v. z) s ≡ z
last_one (Fixed t) z h = (term_Decides t z).0 h
last_one (Var v) z h = refl

pub test_matches : (p : TriplePattern) (t : Triple) → matches p t ≡ true → Matches p t
test_matches p t h =
    let a = and_both (may_be p.s t.s) _ h in
    let b = and_both (may_be p.p t.p) _ a.1 in
    let c = and_both (may_be p.o t.o) _ b.1 in
    let d = and_both (agree p.s p.p t.s t.p) _ c.1 in
    let e = and_both (agree p.s p.o t.s t.o) _ d.1 in
    let g = pick p.p t.p (λ v. t.o) in
    (pick p.s t.s g, picked p.s t.s g a.0, passed p.s p.p t.s t.p g d.0 (picked p.p t.p (λ v. t.o) b.0), passed p.s p.o t.s t.o g e.0 (passed p.p p.o t.p t.o (λ v. t.o) e.1 (last_one p.o t.o c.0)))

may_be_given : (f : ℕ → Term) (s : Spot) (x : Term) → given f s ≡ x → may_be s x ≡ true
may_be_given f (Fixed t) x e = (term_Decides t x).1 e
may_be_given f (Var v) x e = refl

pub numbers : (v w : ℕ) → (v ≡ w) ⊎ ((v == w) ≡ false)
numbers v w = grind (arith, nat_tests)

pub if_same : (b : Bool) (x y : Term) → x ≡ y → (if b then same_term x y else true) ≡ true
if_same true x y e = (term_Decides x y).1 e
if_same false x y e = refl

pub if_not : (b : Bool) (x y : Term) → b ≡ false → (if b then same_term x y else true) ≡ true
if_not true x y e = absurd (cc)
if_not false x y e = refl

agree_given : (f : ℕ → Term) (s p : Spot) (x y : Term) → given f s ≡ x → given f p ≡ y → agree s p x y ≡ true
agree_given f (Fixed t) p x y e h = refl
agree_given f (Var v) (Fixed u) x y e h = refl
agree_given f (Var v) (Var w) x y e h = elim (numbers v w) [ inl q ↦ if_same (v == w) x y (sym e ∙ (ap f q ∙ h)) | inr n ↦ if_not (v == w) x y n ]

pub matches_test : (p : TriplePattern) (t : Triple) → Matches p t → matches p t ≡ true
matches_test p t m =
    both_and (may_be p.s t.s) _ (may_be_given m.0 p.s t.s m.1)
    (both_and (may_be p.p t.p) _ (may_be_given m.0 p.p t.p m.2)
    (both_and (may_be p.o t.o) _ (may_be_given m.0 p.o t.o m.3)
    (both_and (agree p.s p.p t.s t.p) _ (agree_given m.0 p.s p.p t.s t.p m.1 m.2)
    (both_and (agree p.s p.o t.s t.o) _ (agree_given m.0 p.s p.o t.s t.o m.1 m.3)
    (agree_given m.0 p.p p.o t.p t.o m.2 m.3)))))

pub matches_Decides : (p : TriplePattern) (t : Triple) → Decides (matches p t) (Matches p t)
matches_Decides p t = (test_matches p t, matches_test p t)

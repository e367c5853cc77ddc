-- When a triple matches a triple pattern, after SPARQL 1.1 Query Language, sections 18.1.5 and 18.3.1.
use Rattle.std.specs.Prelude.{ℕ, ◌≡◌, ◌⊎◌, ◌==◌, ◌&&◌, Bool, true, if◌then◌else◌}
use Rattle.rdf_terms.specs.declared.term.Term.{Term}
use Rattle.rdf_terms.specs.declared.triple.Triple.{Triple}
use Rattle.rdf_terms.specs.Same.{same_term}
use Rattle.rows_core.specs.declared.pattern.Spot.{Spot}
use Rattle.rows_core.specs.declared.pattern.Spot.TheVariants.{Term as Fixed, Var}
use Rattle.rows_core.specs.declared.pattern.TriplePattern.{TriplePattern}

-- the term that a spot has under an assignment of terms to variables
abbrev pub given : (ℕ → Term) → Spot → Term
given f (Fixed t) = t
given f (Var v) = f v

-- some assignment of terms to the pattern's variables gives the triple
abbrev pub Matches : TriplePattern → Triple → Type 0
Matches p t = (f : ℕ → Term) × (given f p.s ≡ t.s) × (given f p.p ≡ t.p) × (given f p.o ≡ t.o)

-- the variable stands in the pattern
abbrev pub Mentions : TriplePattern → ℕ → Type 0
Mentions p v = (p.s ≡ Var v) ⊎ ((p.p ≡ Var v) ⊎ (p.o ≡ Var v))

-- ---- the tests that decide it

-- a term has itself alone, a variable any term
abbrev pub may_be : Spot → Term → Bool
may_be (Fixed t) x = same_term t x
may_be (Var v) x = true

-- the terms are one where the spots are one variable
abbrev pub agree : Spot → Spot → Term → Term → Bool
agree (Fixed t) b x y = true
agree (Var v) (Fixed t) x y = true
agree (Var v) (Var w) x y = if v == w then same_term x y else true

-- each spot may have its term, and spots of one variable have one term
abbrev pub matches : TriplePattern → Triple → Bool
matches p t = may_be p.s t.s && (may_be p.p t.p && (may_be p.o t.o && (agree p.s p.p t.s t.p && (agree p.s p.o t.s t.o && agree p.p p.o t.p t.o))))

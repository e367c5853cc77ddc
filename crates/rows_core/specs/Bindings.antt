-- What one triple makes of a row, after SPARQL 1.1 Query Language, section 18.3.1.
use Rattle.std.specs.Prelude.{ℕ, zero, suc, ◌≡◌, Bool, true, false, ◌&&◌, List, [], ◌∷◌, Option, Some, None, if◌then◌else◌, slice_get}
use Rattle.std.specs.Option.{option_to_list}
use Rattle.rdf_terms.specs.declared.term.Term.{Term}
use Rattle.rdf_terms.specs.declared.triple.Triple.{Triple}
use Rattle.rdf_terms.specs.Same.{same_term}
use Rattle.rows_core.specs.declared.pattern.Spot.{Spot}
use Rattle.rows_core.specs.declared.pattern.Spot.TheVariants.{Term as Fixed, Var}
use Rattle.rows_core.specs.declared.pattern.TriplePattern.{TriplePattern}
use Rattle.rows_core.specs.Patterns.{agree}
use Rattle.rows_core.specs.Rows.{Cells, cell_or_unbound}

-- the second row has the first one's width and bindings, and maybe more
abbrev pub IsExtended : Cells → Cells → Type 0
IsExtended [] [] = Unit {0}
IsExtended [] (y ∷ ys) = ⊥
IsExtended (c ∷ cs) [] = ⊥
IsExtended (None ∷ cs) (d ∷ ds) = IsExtended cs ds
IsExtended (Some x ∷ cs) (d ∷ ds) = (d ≡ Some x) × IsExtended cs ds

-- the term that a spot has in a row, if any
abbrev pub value_at : Cells → Spot → Option Term
value_at row (Fixed t) = Some t
value_at row (Var v) = cell_or_unbound (slice_get row v)

-- the row's instance of the pattern is the triple
abbrev pub Gives : TriplePattern → Triple → Cells → Type 0
Gives p t row = (value_at row p.s ≡ Some t.s) × (value_at row p.p ≡ Some t.p) × (value_at row p.o ≡ Some t.o)

-- the row extends the first and gives the triple, and each row that does so extends it: it binds the pattern's variables besides, and no other
pub record IsLeast (p : TriplePattern) (t : Triple) (row least : Cells) : Type 0 where
  pub extends : IsExtended row least
  pub gives : Gives p t least
  pub none_below : (other : Cells) → IsExtended row other → Gives p t other → IsExtended least other

-- the least row that extends the row and gives the triple; none where no row does
abbrev pub IsBinding : TriplePattern → Triple → Cells → Option Cells → Type 0
IsBinding p t row (Some least) = IsLeast p t row least
IsBinding p t row None = (other : Cells) → IsExtended row other → Gives p t other → ⊥

-- ---- the same, spot by spot

abbrev pub under : Option Term → Option Cells → Option Cells
under c None = None
under c (Some ds) = Some (c ∷ ds)

-- the row with the variable bound to the term, where it is free or bound to that term
abbrev pub bound_to : ℕ → Term → Cells → Option Cells
bound_to v x [] = None
bound_to zero x (None ∷ cs) = Some (Some x ∷ cs)
bound_to zero x (Some y ∷ cs) = if same_term y x then Some (Some y ∷ cs) else None
bound_to (suc v) x (c ∷ cs) = under c (bound_to v x cs)

abbrev pub bound_spot : Spot → Term → Cells → Option Cells
bound_spot (Fixed t) x cs = if same_term t x then Some cs else None
bound_spot (Var v) x cs = bound_to v x cs

abbrev pub then_bound : Spot → Term → Option Cells → Option Cells
then_bound spot x None = None
then_bound spot x (Some cs) = bound_spot spot x cs

-- the row with the subject bound, then the predicate, then the object
abbrev pub bound : TriplePattern → Triple → Cells → Option Cells
bound p t cs = then_bound p.o t.o (then_bound p.p t.p (bound_spot p.s t.s cs))

-- the row's extension by the triple, as a list of one or none
abbrev pub extensions : TriplePattern → Triple → Cells → List Cells
extensions p t cs = option_to_list (bound p t cs)

-- ---- the tests that decide whether there is one

abbrev pub cell_takes : Option (Option Term) → Term → Bool
cell_takes None x = false
cell_takes (Some None) x = true
cell_takes (Some (Some y)) x = same_term y x

abbrev pub takes : Cells → Spot → Term → Bool
takes row (Fixed t) x = same_term t x
takes row (Var v) x = cell_takes (slice_get row v) x

-- each spot takes its term in the row, and spots of one variable have one term
abbrev pub is_bindable : TriplePattern → Triple → Cells → Bool
is_bindable p t row = takes row p.s t.s && ((takes row p.p t.p && agree p.s p.p t.s t.p) && ((takes row p.o t.o && agree p.s p.o t.s t.o) && agree p.p p.o t.p t.o))

-- A pattern with terms in the place of variables, after SPARQL 1.1 Query Language, section 18.6 (Substitute), and where the triples stand that may match it.
use Rattle.std.specs.Prelude.{ℕ, ◌<◌, List, [], ◌∷◌, Option, Some, None, slice_get, length}
use Rattle.rdf_terms.specs.declared.term.Term.{Term}
use Rattle.rdf_terms.specs.declared.triple.Triple.{Triple}
use Rattle.rows_core.specs.declared.pattern.Spot.{Spot}
use Rattle.rows_core.specs.declared.pattern.Spot.TheVariants.{Term as Fixed, Var}
use Rattle.rows_core.specs.declared.pattern.TriplePattern.{TriplePattern}
use Rattle.rows_core.specs.Rows.{Cells, cell_or_unbound}
use Rattle.rows_core.specs.Bindings.{extensions}

abbrev pub term_or_var : ℕ → Option Term → Spot
term_or_var v None = Var v
term_or_var v (Some x) = Fixed x

-- the row's term in the place of a variable that it binds
abbrev pub substituted_spot : Cells → Spot → Spot
substituted_spot row (Fixed t) = Fixed t
substituted_spot row (Var v) = term_or_var v (cell_or_unbound (slice_get row v))

-- the pattern with the row's terms in the place of the variables that it binds
abbrev pub substituted : Cells → TriplePattern → TriplePattern
substituted row p = record { s = substituted_spot row p.s; p = substituted_spot row p.p; o = substituted_spot row p.o }

-- each of the places is that of a triple
abbrev pub ArePlaces : List Triple → List ℕ → Type 0
ArePlaces triples [] = Unit {0}
ArePlaces triples (n ∷ ns) = (n < length triples) × ArePlaces triples ns

abbrev pub extensions_by : TriplePattern → Cells → Option Triple → List Cells
extensions_by p row None = []
extensions_by p row (Some t) = extensions p t row

-- the row's extensions by the triple at the place
abbrev pub extensions_at : TriplePattern → List Triple → Cells → ℕ → List Cells
extensions_at p triples row place = extensions_by p row (slice_get triples place)

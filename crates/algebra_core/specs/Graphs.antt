-- Basic graph patterns over a list of triples, after SPARQL 1.1 Query Language, section 18.3.
use Rattle.std.specs.Prelude.{Bool, List, [], ◌∷◌}
use Rattle.std.specs.List.{flat_map}
use Rattle.rdf_terms.specs.declared.triple.Triple.{Triple}
use Rattle.rdf_terms.specs.Lists.{add_all}
use Rattle.rdf_terms.specs.Same.{same_triple}
use Rattle.rows_core.specs.declared.pattern.TriplePattern.{TriplePattern}
use Rattle.rows_core.specs.Rows.{Cells}
use Rattle.rows_core.specs.Bindings.{extensions}

-- the first of each equal elements, in order
abbrev pub once : {X : Type 0} → (X → X → Bool) → List X → List X
once same xs = add_all same [] xs

-- the list of triples as a set: each triple once, in order of first appearance
abbrev pub graph : List Triple → List Triple
graph triples = once same_triple triples

-- each row replaced by its extensions by the triples
abbrev pub extended : TriplePattern → List Triple → List Cells → List Cells
extended p triples rows = flat_map (λ row. flat_map (λ t. extensions p t row) triples) rows

-- the rows extended by each pattern in turn; from the row that binds nothing on, they are the pattern instance mappings of section 18.3.1, which the law `pattern_rows_are_instances` says
abbrev pub all_extended : List TriplePattern → List Triple → List Cells → List Cells
all_extended [] triples rows = rows
all_extended (p ∷ ps) triples rows = all_extended ps triples (extended p triples rows)

-- Pattern instance mappings of a basic graph pattern, whatever finds them (SPARQL 1.1 Query Language, section 18.3.1).
-- Such a mapping gives terms to the pattern's variables and to its blank nodes; a solution is what it gives to the variables,
-- and it counts once for each such mapping.
use Rattle.std.specs.Prelude.{ℕ, ◌≡◌, ◌⊎◌, List, [], ◌∷◌, length}
use Rattle.rdf_terms.specs.declared.term.Term.{Term}
use Rattle.rdf_terms.specs.declared.triple.Triple.{Triple}
use Rattle.rdf_terms.specs.Lists.{IsIn}
use Rattle.rows_core.specs.declared.pattern.TriplePattern.{TriplePattern}
use Rattle.rows_core.specs.Patterns.{Mentions}
use Rattle.rows_core.specs.Rows.{Cells, Binds}
use Rattle.rows_core.specs.Bindings.{Gives}

-- under the row each pattern is one of the triples
abbrev pub AreTriples : List TriplePattern → List Triple → Cells → Type 0
AreTriples [] triples row = Unit {0}
AreTriples (p ∷ ps) triples row = ((t : Triple) × IsIn triples t × Gives p t row) × AreTriples ps triples row

-- the variable stands in one of the patterns
abbrev pub MentionedIn : List TriplePattern → ℕ → Type 0
MentionedIn [] v = ⊥
MentionedIn (p ∷ ps) v = Mentions p v ⊎ MentionedIn ps v

-- the row maps the patterns' variables and blank nodes, and no other, and under it each pattern is one of the triples
pub record IsPatternInstance (ps : List TriplePattern) (n : ℕ) (g : List Triple) (row : Cells) : Type 0 where
  pub width : length row ≡ n
  pub triples : AreTriples ps g row
  pub variables : (v : ℕ) (x : Term) → Binds row v x → MentionedIn ps v

-- Indexes of a graph: the places of triples by a term that they have.
use Rattle.std.specs.Prelude.{ℕ, ◌≡◌, ◌≤◌, Bool, List, [], take, length}
use Rattle.std.specs.Option.{unwrap_or}
use Rattle.indexmap.specs.IndexMap.{IndexMap, get}
use Rattle.rdf_terms.specs.declared.term.Term.{Term}
use Rattle.rdf_terms.specs.declared.triple.Triple.{Triple}
use Rattle.rdf_terms.specs.Lists.{Apart}
use Rattle.rdf_terms.specs.Same.{same_term}
use Rattle.rows_core.specs.declared.pattern.Spot.{Spot}
use Rattle.rows_core.specs.declared.pattern.TriplePattern.{TriplePattern}
use Rattle.rows_core.specs.Patterns.{matches}
use Rattle.growing_graph.specs.declared.index.Part.{Part}
use Rattle.growing_graph.specs.declared.index.Part.TheVariants.{Subject, Predicate, Object}
use Rattle.growing_graph.specs.Places.{places, kept_at}

-- the triple's term in the part
abbrev pub part_of : Part → Triple → Term
part_of Subject t = t.s
part_of Predicate t = t.p
part_of Object t = t.o

-- the pattern's spot in the part
abbrev pub spot_of : Part → TriplePattern → Spot
spot_of Subject p = p.s
spot_of Predicate p = p.p
spot_of Object p = p.o

-- the triple has the term in the part
abbrev pub has_term : Part → Term → Triple → Bool
has_term part term t = same_term (part_of part t) term

-- the places that the map lists under a term
abbrev pub places_at : {S : Type 0} → IndexMap Term (List ℕ) S → Term → List ℕ
places_at table term = unwrap_or (get same_term table term) []

-- the map lists the first so many triples by their terms in the part
pub record Lists {S : Type 0} (part : Part) (triples : List Triple) (listed : ℕ) (table : IndexMap Term (List ℕ) S) : Type 0 where
  pub within : listed ≤ length triples
  pub lists : (term : Term) → places_at table term ≡ places (has_term part term) (take listed triples)

-- of the first so many triples none matches the pattern but at these places, which ascend
pub record Covers (pattern : TriplePattern) (triples : List Triple) (ps : List ℕ) (listed : ℕ) : Type 0 where
  pub within : listed ≤ length triples
  pub first : places (matches pattern) (take listed triples) ≡ kept_at (matches pattern) triples ps

-- no triple stands twice, and each index lists the first triples by their terms in its part
pub record IsIndexed {S : Type 0} (triples : List Triple) (subjects : ℕ) (by_subject : IndexMap Term (List ℕ) S) (predicates : ℕ) (by_predicate : IndexMap Term (List ℕ) S) (objects : ℕ) (by_object : IndexMap Term (List ℕ) S) : Type 0 where
  pub apart : Apart triples
  pub subject : Lists Subject triples subjects by_subject
  pub predicate : Lists Predicate triples predicates by_predicate
  pub object : Lists Object triples objects by_object

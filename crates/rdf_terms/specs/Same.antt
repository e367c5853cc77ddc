-- The tests that `==` makes at terms and triples.
use Rattle.std.specs.Prelude.{Bool}
use Rattle.rdf_terms.specs.declared.term.Term.{Term}
use Rattle.rdf_terms.specs.declared.triple.Triple.{Triple}
use Rattle.rdf_terms.specs.contracts.term.TermPartialEq.TheImpl as term_eq
use Rattle.rdf_terms.specs.contracts.triple.TriplePartialEq.TheImpl as triple_eq

abbrev pub same_term : Term → Term → Bool
same_term = (term_eq.ghosts).eq

abbrev pub same_triple : Triple → Triple → Bool
same_triple = (triple_eq.ghosts).eq

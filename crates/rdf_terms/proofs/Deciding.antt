-- `==` at terms and triples decides whether they are one.
use Rattle.std.proofs.Common.{◌≡◌, rules}
use Rattle.std.specs.Bool.{Decides}
use Rattle.std.proofs.lemmas.Grind.{common_steps}
use Rattle.std.proofs.lemmas.Slice.Eq.{bytes_eq-Decides}
use Rattle.rdf_terms.specs.declared.term.Term.{Term}
use Rattle.rdf_terms.specs.declared.term.Term.TheVariants.{Blank, Iri, Literal}
use Rattle.rdf_terms.specs.declared.triple.Triple.{Triple}
use Rattle.rdf_terms.specs.Same.{same_term, same_triple}

pub term_Decides : (a b : Term) → Decides (same_term a b) (a ≡ b)
term_Decides (Iri a) (Iri b) = search (rules, common_steps, bytes_eq-Decides)
term_Decides (Iri a) (Blank e m) = search (rules, common_steps, bytes_eq-Decides)
term_Decides (Iri a) (Literal h u k) = search (rules, common_steps, bytes_eq-Decides)
term_Decides (Blank d n) (Iri b) = search (rules, common_steps, bytes_eq-Decides)
term_Decides (Blank d n) (Blank e m) = search (rules, common_steps, bytes_eq-Decides)
term_Decides (Blank d n) (Literal h u k) = search (rules, common_steps, bytes_eq-Decides)
term_Decides (Literal g t l) (Iri b) = search (rules, common_steps, bytes_eq-Decides)
term_Decides (Literal g t l) (Blank e m) = search (rules, common_steps, bytes_eq-Decides)
term_Decides (Literal g t l) (Literal h u k) = search (rules, common_steps, bytes_eq-Decides)

pub triple_Decides : (a b : Triple) → Decides (same_triple a b) (a ≡ b)
triple_Decides a b = search (rules, common_steps, term_Decides)

-- What holds of an expression over any graph: the values of SPARQL 1.1 Query Language, section 18.5, are multisets, and a graph is a set of triples (RDF 1.1 Concepts, section 3).
use Rattle.std.specs.Prelude.{ℕ, ◌≡◌, true, List, length}
use Rattle.std.specs.List.Sorted.{IsPermutation}
use Rattle.rdf_terms.specs.declared.triple.Triple.{Triple}
use Rattle.rdf_terms.specs.Lists.{IsIn}
use Rattle.rows_core.specs.Rows.{Cells}
use Rattle.algebra_core.specs.declared.algebra.Algebra.{Algebra}
use Rattle.algebra_core.specs.Meaning.{eval, is_plain, restricted}
use Rattle.algebra_core.specs.Bags.{IsSubBag}

-- what it gives, as a bag, does not depend on the order of the triples
pub record IgnoresOrder (a : Algebra) : Type 0 where
  pub bags : (width names : ℕ) (g h : List Triple) → IsPermutation g h → IsPermutation (eval a width names g) (eval a width names h)

-- more triples give more rows, where no optional part stands in it
pub record Grows (a : Algebra) : Type 0 where
  pub subs : is_plain a ≡ true → (width names : ℕ) (g h : List Triple) → IsSubBag g h → IsSubBag (eval a width names g) (eval a width names h)

-- the row has the width, and binds no blank node of a pattern
abbrev pub IsShaped : ℕ → ℕ → Cells → Type 0
IsShaped width names row = (length row ≡ width) × (restricted names row ≡ row)

-- so does each row that it gives
pub record KeepsShape (a : Algebra) : Type 0 where
  pub shapes : (width names : ℕ) (g : List Triple) (row : Cells) → IsIn (eval a width names g) row → IsShaped width names row

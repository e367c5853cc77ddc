-- The order of terms: blank nodes, then IRIs, then literals. It is this project's own.
use Rattle.std.specs.Prelude.{ℕ, List, Option, None, Some}
use Rattle.std.specs.declared.cmp.Ordering.{Ordering}
use Rattle.std.specs.declared.cmp.Ordering.TheVariants.{Less, Equal, Greater}
use Rattle.std.specs.Cmp.Lexicographic.{slice_cmp}
use Rattle.std.specs.Ordering.{nat_cmp, ordering_then}
use Rattle.rdf_terms.specs.declared.term.Term.{Term}
use Rattle.rdf_terms.specs.declared.term.Term.TheVariants.{Blank, Iri, Literal}

-- texts go by their bytes, which is by their code points
abbrev pub text_cmp : List ℕ → List ℕ → Ordering
text_cmp = slice_cmp nat_cmp

-- no tag comes before any tag
abbrev pub tag_cmp : Option (List ℕ) → Option (List ℕ) → Ordering
tag_cmp None None = Equal
tag_cmp None (Some b) = Less
tag_cmp (Some a) None = Greater
tag_cmp (Some a) (Some b) = text_cmp a b

-- blank nodes by document and number, IRIs by text, literals by datatype, tag, lexical form
abbrev pub term_cmp : Term → Term → Ordering
term_cmp (Blank doc n) (Blank other m) = ordering_then (text_cmp doc other) (nat_cmp n m)
term_cmp (Blank doc n) (Iri b) = Less
term_cmp (Blank doc n) (Literal datatype tag lexical) = Less
term_cmp (Iri a) (Blank doc n) = Greater
term_cmp (Iri a) (Iri b) = text_cmp a b
term_cmp (Iri a) (Literal datatype tag lexical) = Less
term_cmp (Literal datatype tag lexical) (Blank doc n) = Greater
term_cmp (Literal datatype tag lexical) (Iri b) = Greater
term_cmp (Literal x t a) (Literal y u b) = ordering_then (text_cmp x y) (ordering_then (tag_cmp t u) (text_cmp a b))

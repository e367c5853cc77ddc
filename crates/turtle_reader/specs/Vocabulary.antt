-- The IRIs that the grammar itself names (RDF 1.1 Turtle, sections 2.4, 2.5 and 2.8). They are opaque, so that no goal spells them out.
use Rattle.std.specs.Prelude.{ℕ, List, codes}

unfoldable pub rdf_type : List ℕ
rdf_type = codes "http://www.w3.org/1999/02/22-rdf-syntax-ns#type"

unfoldable pub rdf_first : List ℕ
rdf_first = codes "http://www.w3.org/1999/02/22-rdf-syntax-ns#first"

unfoldable pub rdf_rest : List ℕ
rdf_rest = codes "http://www.w3.org/1999/02/22-rdf-syntax-ns#rest"

unfoldable pub rdf_nil : List ℕ
rdf_nil = codes "http://www.w3.org/1999/02/22-rdf-syntax-ns#nil"

unfoldable pub lang_string : List ℕ
lang_string = codes "http://www.w3.org/1999/02/22-rdf-syntax-ns#langString"

unfoldable pub xsd_string : List ℕ
xsd_string = codes "http://www.w3.org/2001/XMLSchema#string"

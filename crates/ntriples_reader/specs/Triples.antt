-- The triples of statements (RDF 1.1 N-Triples, sections 2.2 to 2.4 and 7.2): blank nodes are numbered from 0 in the order in
-- which their labels first appear in the document.
use Rattle.std.specs.Prelude.{◌≡◌, ℕ, List, [], ◌∷◌, ◌++◌, Option, Some, None, Result, Ok, Err, bytes_eq, codes}
use Rattle.std.specs.List.{position_or_len}
use Rattle.rdf_terms.specs.Lists.{add_once}
use Rattle.rdf_terms.specs.NTriplesForm.{xsd_string}
use Rattle.rdf_terms.specs.declared.term.Term.{Term}
use Rattle.rdf_terms.specs.declared.term.Term.TheVariants.{Blank, Iri, Literal}
use Rattle.rdf_terms.specs.declared.triple.Triple.{Triple}
use Rattle.ntriples_reader.specs.declared.numbering.Common.{Common}
use Rattle.ntriples_reader.specs.declared.numbering.Numbering.{Numbering}
use Rattle.ntriples_reader.specs.declared.statement.Node.{Node}
use Rattle.ntriples_reader.specs.declared.statement.Node.TheVariants as nodes
use Rattle.ntriples_reader.specs.declared.statement.Statement.{Statement}

-- the IRI of the datatype rdf:langString (RDF 1.1 Concepts, section 3.3)
abbrev pub lang_string : List ℕ
lang_string = codes "http://www.w3.org/1999/02/22-rdf-syntax-ns#langString"

-- a node as a term of the document, by the labels up to it, each once; of a label that is new the number is theirs
abbrev pub term_of : List ℕ → List (List ℕ) → Node → Term
term_of doc labels (nodes.Iri iri) = Iri iri
term_of doc labels (nodes.Label label) = Blank doc (position_or_len (bytes_eq label) labels)
term_of doc labels (nodes.Simple text) = Literal xsd_string None text
term_of doc labels (nodes.Tagged text tag) = Literal lang_string (Some tag) text
term_of doc labels (nodes.Typed text datatype) = Literal datatype None text

-- the labels with that of a node
abbrev pub labels_with : List (List ℕ) → Node → List (List ℕ)
labels_with labels (nodes.Label label) = add_once bytes_eq labels label
labels_with labels _ = labels

-- the triple of a statement, and the labels with its own
unfoldable pub triple_of : List ℕ → List (List ℕ) → Statement → Triple
triple_of doc labels st = record { s = term_of doc labels st.s; p = Iri st.p; o = term_of doc (labels_with labels st.s) st.o }

unfoldable pub labels_behind : List (List ℕ) → Statement → List (List ℕ)
labels_behind labels st = labels_with (labels_with labels st.s) st.o

-- the triples of statements behind these labels
unfoldable pub triples_from : List ℕ → List (List ℕ) → List Statement → List Triple
triples_from doc labels [] = []
triples_from doc labels (st ∷ sts) = triple_of doc labels st ∷ triples_from doc (labels_behind labels st) sts

-- the triples of a document, or the place of what does not fit
abbrev pub numbered : List ℕ → List (List ℕ) → Result (List Statement) ℕ → Result (List Triple) ℕ
numbered doc labels (Ok sts) = Ok (triples_from doc labels sts)
numbered doc labels (Err at) = Err at

-- ---- one line after the other

-- the triple of a line's statement, if it has one
abbrev pub line_triples : List ℕ → List (List ℕ) → Option Statement → List Triple
line_triples doc labels None = []
line_triples doc labels (Some st) = triple_of doc labels st ∷ []

-- the labels with those of a line
abbrev pub line_labels : List (List ℕ) → Option Statement → List (List ℕ)
line_labels labels None = labels
line_labels labels (Some st) = labels_behind labels st

-- these are the datatypes of literals without one
pub record IsCommon (c : Common) : Type 0 where
  pub simple : c.simple ≡ xsd_string
  pub tagged : c.tagged ≡ lang_string

-- no triples yet, in a document of this name
pub record IsBegun (doc : List ℕ) (n : Numbering) : Type 0 where
  pub named : n.common.doc ≡ doc
  pub common : IsCommon n.common
  pub labels : n.labels.keys ≡ []
  pub triples : n.triples.items ≡ []

-- one numbering is another with the triple of a line
pub record IsAdded (o : Option Statement) (old new : Numbering) : Type 0 where
  pub common : new.common ≡ old.common
  pub labels : new.labels.keys ≡ line_labels old.labels.keys o
  pub triples : new.triples.items ≡ old.triples.items ++ line_triples old.common.doc old.labels.keys o

-- The text of results, after the SPARQL 1.1 Query Results JSON Format, section 3, in the layout of
-- docs/FORMATS.md, "Results". Strings are as the crate serde_json writes them.
use Rattle.std.specs.Prelude.{ℕ, List, [], ◌∷◌, ◌++◌, codes, Bool, true, false, bytes_eq, Option, Some, None, if◌then◌else◌, map}
use Rattle.std.specs.List.{join_with_byte}
use Rattle.json.specs.Print.{quoted}
use Rattle.serde_json.specs.Data.{Data, string, object, Members, no_members, member, put}
use Rattle.serde_json.specs.Written.{compact_text}
use Rattle.rdf_terms.specs.NTriplesForm.{blank_label, xsd_string}
use Rattle.rdf_terms.specs.declared.term.Term.{Term}
use Rattle.rdf_terms.specs.declared.term.Term.TheVariants.{Iri, Blank, Literal}

-- the head: the names of the selected variables, in their order
abbrev pub head_text : List (List ℕ) → List ℕ
head_text names =
    codes "{\"head\":{\"vars\":[" ++ join_with_byte 44 (map quoted names) ++ codes "]},\"results\":{\"bindings\":["

-- the members that each term has
abbrev pub type_and_value : List ℕ → List ℕ → Members
type_and_value type_ value = member (codes "type") (string type_) (member (codes "value") (string value) no_members)

-- a literal with its tag
abbrev pub tagged_members : List ℕ → List ℕ → Members
tagged_members lexical tag =
    member (codes "type") (string (codes "literal"))
    (member (codes "value") (string lexical) (member (codes "xml:lang") (string tag) no_members))

-- a literal with its datatype
abbrev pub typed_members : List ℕ → List ℕ → Members
typed_members datatype lexical = member (codes "datatype") (string datatype) (type_and_value (codes "literal") lexical)

-- a literal: with its tag where it has one, else with its datatype unless that is xsd:string
abbrev pub literal_members : List ℕ → Option (List ℕ) → List ℕ → Members
literal_members datatype (Some tag) lexical = tagged_members lexical tag
literal_members datatype None lexical =
    if bytes_eq datatype xsd_string then type_and_value (codes "literal") lexical else typed_members datatype lexical

-- a term: its kind, its text, and what a literal has beside these
abbrev pub term_data : Term → Data
term_data (Iri text) = object (type_and_value (codes "uri") text)
term_data (Blank doc n) = object (type_and_value (codes "bnode") (blank_label doc n))
term_data (Literal datatype tag lexical) = object (literal_members datatype tag lexical)

-- the members with those of one more cell, which may be unbound; keys stand in ascending order
abbrev pub with_cell : List ℕ → Option Term → Members → Members
with_cell name None members = members
with_cell name (Some term) members = put name (term_data term) members

-- the members with those of a row: one for each name whose cell is bound
unfoldable pub row_members : List (List ℕ) → List (Option Term) → Members → Members
row_members [] cells members = members
row_members (name ∷ names) [] members = members
row_members (name ∷ names) (cell ∷ cells) members = row_members names cells (with_cell name cell members)

-- a row as a JSON object
abbrev pub row_object : List (List ℕ) → List (Option Term) → List ℕ
row_object names cells = compact_text (object (row_members names cells no_members))

-- a row with the line end, and the comma after the row before it, that stand in front
abbrev pub row_text : List (List ℕ) → List (Option Term) → Bool → List ℕ
row_text names cells first = (if first then codes "\n" else codes ",\n") ++ row_object names cells

-- the tail
abbrev pub tail_text : List ℕ
tail_text = codes "\n]}}\n"

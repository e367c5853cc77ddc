-- The N-Triples form of a term, after RDF 1.1 N-Triples, sections 2 and 7.
use Rattle.std.specs.Prelude.{ℕ, ◌==◌, List, [], ◌∷◌, ◌++◌, Option, None, Some, if◌then◌else◌, flat_map, codes}
use Rattle.std.specs.Fmt.{decimal}
use Rattle.std.specs.Str.{bytes_eq}
use Rattle.hex.specs.Hex.{encode_lower}
use Rattle.rdf_terms.specs.declared.term.Term.{Term}
use Rattle.rdf_terms.specs.declared.term.Term.TheVariants.{Blank, Iri, Literal}

-- the bytes that a quoted string escapes
abbrev pub quote : ℕ
quote = 34

abbrev pub backslash : ℕ
backslash = 92

abbrev pub newline : ℕ
newline = 10

abbrev pub carriage_return : ℕ
carriage_return = 13

abbrev pub tab : ℕ
tab = 9

-- a byte inside a quoted string: a backslash and a sign for each of these, any other as it is
abbrev pub escaped : ℕ → List ℕ
escaped b =
    if b == quote then codes "\\\"" else if b == backslash then codes "\\\\" else if b == newline then codes "\\n" else if b == carriage_return then codes "\\r" else if b == tab then codes "\\t" else b ∷ []

-- the text between the quotes of a string
abbrev pub escaped_text : List ℕ → List ℕ
escaped_text text = flat_map escaped text

-- an IRI as it is, in angle brackets
abbrev pub bracketed : List ℕ → List ℕ
bracketed iri = codes "<" ++ iri ++ codes ">"

-- the IRI of the datatype xsd:string (RDF 1.1 Concepts, section 5.1)
abbrev pub xsd_string : List ℕ
xsd_string = codes "http://www.w3.org/2001/XMLSchema#string"

-- what stands behind the quotes of a literal: its tag, or its datatype unless that is xsd:string
abbrev pub ending : List ℕ → Option (List ℕ) → List ℕ
ending datatype (Some tag) = codes "@" ++ tag
ending datatype None = if bytes_eq datatype xsd_string then [] else codes "^^" ++ bracketed datatype

-- the label of a blank node (docs/FORMATS.md, "Blank node labels"): its number in decimal, and the
-- text of its document in lower case hexadecimal
abbrev pub blank_label : List ℕ → ℕ → List ℕ
blank_label doc n = codes "b" ++ decimal n ++ codes "x" ++ encode_lower doc

-- the N-Triples form of a term
abbrev pub ntriples_form : Term → List ℕ
ntriples_form (Iri iri) = bracketed iri
ntriples_form (Blank doc n) = codes "_:" ++ blank_label doc n
ntriples_form (Literal datatype tag lexical) = codes "\"" ++ escaped_text lexical ++ codes "\"" ++ ending datatype tag

-- What IRIREFs and prefixed names stand for (SPARQL 1.1, section 4.1.1; RDF 1.1 Turtle, section 6.3).
use Rattle.std.specs.Prelude.{ℕ, List, ◌++◌, Option, Some, None}
use Rattle.iri_core.specs.Refusal.{place_refused}
use Rattle.iri_core.specs.Resolution.{resolved}

-- the text, where no place in it is refused
abbrev pub unless_refused : Option ℕ → List ℕ → Option (List ℕ)
unless_refused None text = Some text
unless_refused (Some at) text = None

-- the IRI of an IRIREF's text under the base
abbrev pub resolved_iri : List ℕ → List ℕ → Option (List ℕ)
resolved_iri base text = unless_refused (place_refused text) (resolved base text)

-- the IRI of a prefix's IRI and a local name
abbrev pub prefixed_iri : List ℕ → List ℕ → Option (List ℕ)
prefixed_iri iri local = unless_refused (place_refused (iri ++ local)) (iri ++ local)

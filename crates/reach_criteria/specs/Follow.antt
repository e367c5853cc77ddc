-- Which triples are followed, and the links that they name: the criteria c_All, c_None and c_Match
-- (after Hartig, SPARQL for a Web of Linked Data: Semantics and Computability, 2012).
use Rattle.std.specs.Prelude.{ℕ, ◌≡◌, ◌⊎◌, List, [], ◌∷◌, ◌++◌, Option, Some, Bool, true, false, if◌then◌else◌}
use Rattle.std.specs.declared.option.Option.TheVariants as option
use Rattle.std.specs.Option.{option_to_list}
use Rattle.std.specs.List.{list_any}
use Rattle.rdf_terms.specs.declared.term.Term.{Term}
use Rattle.rdf_terms.specs.declared.term.Term.TheVariants.{Blank, Iri, Literal}
use Rattle.rdf_terms.specs.declared.triple.Triple.{Triple}
use Rattle.rdf_terms.specs.Lists.{IsIn, add_all}
use Rattle.link_uri.specs.declared.link.Link.{Link}
use Rattle.link_uri.specs.Links.{link_of, same_link}
use Rattle.rows_core.specs.declared.pattern.TriplePattern.{TriplePattern}
use Rattle.rows_core.specs.Patterns.{Matches, matches}
use Rattle.reach_criteria.specs.declared.criterion.Criterion.{Criterion}
use Rattle.reach_criteria.specs.declared.criterion.Criterion.TheVariants.{All, None as Nothing, Match}

-- the criterion selects the triple, for the patterns of a query: every one, none, or those that some pattern matches
abbrev pub Selects : Criterion → List TriplePattern → Triple → Type 0
Selects All patterns triple = Unit {0}
Selects Nothing patterns triple = ⊥
Selects Match patterns triple = (p : TriplePattern) × IsIn patterns p × Matches p triple

-- the link that a term names, where it is an IRI that has one
abbrev pub named_link : Term → Option Link
named_link (Iri iri) = link_of iri
named_link (Blank doc n) = option.None
named_link (Literal datatype tag lexical) = option.None

-- an IRI in one of the triple's three positions has the link
abbrev pub Names : Triple → Link → Type 0
Names triple link = (named_link triple.s ≡ Some link) ⊎ ((named_link triple.p ≡ Some link) ⊎ (named_link triple.o ≡ Some link))

-- some selected triple names a link with the text
abbrev pub IsTarget : Criterion → List TriplePattern → List Triple → List ℕ → Type 0
IsTarget criterion patterns triples text = (t : Triple) × IsIn triples t × Selects criterion patterns t × (v : Link) × Names t v × (v.text ≡ text)

-- ---- the list of these links, as it is computed

-- the test of the criterion
abbrev pub selects : Criterion → List TriplePattern → Triple → Bool
selects All patterns triple = true
selects Nothing patterns triple = false
selects Match patterns triple = list_any (λ p. matches p triple) patterns

-- the links that a triple names: subject, predicate, object
abbrev pub named_links : Triple → List Link
named_links triple = option_to_list (named_link triple.s) ++ (option_to_list (named_link triple.p) ++ option_to_list (named_link triple.o))

-- the links that selected triples name, in order of appearance
abbrev pub appearing : Criterion → List TriplePattern → List Triple → List Link
appearing criterion patterns [] = []
appearing criterion patterns (t ∷ ts) = (if selects criterion patterns t then named_links t else []) ++ appearing criterion patterns ts

-- these links, each once, where it first appears
abbrev pub links_of : Criterion → List TriplePattern → List Triple → List Link
links_of criterion patterns triples = add_all same_link [] (appearing criterion patterns triples)

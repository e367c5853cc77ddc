-- What is kept of IRIs while their links are gathered.
use Rattle.std.specs.Prelude.{ℕ, ◌≡◌, List, Some, true}
use Rattle.std.specs.List.{list_any}
use Rattle.rdf_terms.specs.Lists.{IsIn}
use Rattle.link_uri.specs.declared.link.Link.{Link}
use Rattle.link_uri.specs.Links.{link_of, AreLinks, same_link}

-- the link of the IRI, where it has one, is among the links
abbrev pub IsThere : List Link → List ℕ → Type 0
IsThere links iri = (link : Link) → link_of iri ≡ Some link → list_any (same_link link) links ≡ true

-- links, and the IRIs that were met, whose links are among them
pub record IsGathered (links : List Link) (met : List (List ℕ)) : Type 0 where
  pub valid_links : AreLinks links
  pub there : (iri : List ℕ) → IsIn met iri → IsThere links iri

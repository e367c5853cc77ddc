-- Which links are reachable from the seeds, by redirects and by the links of selected triples
-- (after Hartig, SPARQL for a Web of Linked Data: Semantics and Computability, 2012).
-- A link stands here by its text: two links are one where their texts are equal.
use Rattle.std.specs.Prelude.{ℕ, ◌≡◌, List, [], ◌∷◌, Option, Some}
use Rattle.rdf_terms.specs.Lists.{IsIn}
use Rattle.link_uri.specs.declared.link.Link.{Link}
use Rattle.link_uri.specs.Links.{link_of}
use Rattle.rows_core.specs.declared.pattern.TriplePattern.{TriplePattern}
use Rattle.reach_criteria.specs.declared.criterion.Criterion.{Criterion}
use Rattle.reach_criteria.specs.Follow.{IsTarget}
use Rattle.reachability.specs.declared.outcome.Outcome.{Outcome}
use Rattle.reachability.specs.declared.outcome.Outcome.TheVariants.{Document, Moved, Refused}

-- the text of a link
abbrev pub Text : Type 0
Text = List ℕ

-- which links of documents are followed: a criterion, and the patterns of a query
pub record Rule : Type 0 where
  pub criterion : Criterion
  pub patterns : List TriplePattern

-- the outcome leads to the link of the text: it moved there, or a selected triple names it
abbrev pub LeadsTo : Rule → Outcome → Text → Type 0
LeadsTo rule (Document triples) text = IsTarget rule.criterion rule.patterns triples text
LeadsTo rule (Moved link) text = link.text ≡ text
LeadsTo rule (Refused why) text = ⊥

-- u leads to v, where Out says which outcome a link has
pub record HasEdge (Out : Text → Outcome → Type 0) (rule : Rule) (u v : Text) : Type 0 where
  pub outcome : Outcome
  pub known : Out u outcome
  pub leads : LeadsTo rule outcome v

-- u leads to v, and paths may go on from u
abbrev pub GoesOn : (Text → Outcome → Type 0) → (Text → Type 0) → Rule → Text → Text → Type 0
GoesOn Out LeftOut rule u v = (LeftOut u → ⊥) × HasEdge Out rule u v

-- the links, newest first, are a path to v: the first of all is a seed, and each leads to the next
abbrev pub IsPath : (Text → Text → Type 0) → List Text → List Text → Text → Type 0
IsPath Leads seeds [] v = IsIn seeds v
IsPath Leads seeds (u ∷ before) v = IsPath Leads seeds before u × Leads u v

-- some path leads from a seed to the link; no link that is left out is on it, but perhaps as the last
pub record IsReachable (Out : Text → Outcome → Type 0) (LeftOut : Text → Type 0) (seeds : List Text) (rule : Rule) (v : Text) : Type 0 where
  pub over : List Text
  pub path : IsPath (GoesOn Out LeftOut rule) seeds over v

-- no link is left out
abbrev pub NoLink : Text → Type 0
NoLink text = ⊥

-- the link of the text has the outcome, by a function that gives a link's outcome or none
pub record HasOutcome (out : Link → Option Outcome) (text : Text) (outcome : Outcome) : Type 0 where
  pub link : Link
  pub of : link_of text ≡ Some link
  pub out_is : out link ≡ Some outcome

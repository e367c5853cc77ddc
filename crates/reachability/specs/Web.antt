-- A web of linked data, and what is heard for each link
-- (after Hartig, SPARQL for a Web of Linked Data: Semantics and Computability, 2012).
use Rattle.std.specs.Prelude.{ℕ, ◌≡◌, List, [], ◌∷◌, Option, Some, None, Bool, bytes_eq, if◌then◌else◌}
use Rattle.link_uri.specs.declared.heard.Heard.{Heard}
use Rattle.link_uri.specs.declared.heard.Heard.TheVariants.{Never}
use Rattle.reachability.specs.declared.web.Web.{Web}
use Rattle.reachability.specs.Reach.{Text}

-- a web, by what it answers for the text of each link
abbrev pub ToldWeb : Type 0
ToldWeb = Text → Heard

-- the first entry of the text, or the rest
abbrev pub heard_in : List (Text × Heard) → Heard → Text → Heard
heard_in [] otherwise text = otherwise
heard_in (entry ∷ entries) otherwise text = if bytes_eq entry.0 text then entry.1 else heard_in entries otherwise text

-- what a finite web answers for the link of a text
abbrev pub heard_at : Web → ToldWeb
heard_at web text = heard_in web.entries web.otherwise text

-- a web is told, and it never answers for the link of the text
abbrev pub NeverHeard : Option ToldWeb → Text → Type 0
NeverHeard None text = ⊥
NeverHeard (Some web) text = web text ≡ Never

-- what all fetchers of a run share: the web, where it is told, the tries, and whether they are sure:
-- then only links that the told web never answers fail
pub record Fetch : Type 0 where
  pub web : Option ToldWeb
  pub tries : ℕ
  pub sure : Bool

-- In which order the record of a run stands.
use Rattle.std.specs.Prelude.{ℕ, ◌≡◌, List, [], ◌∷◌, bytes_eq, if◌then◌else◌}
use Rattle.std.specs.List.{list_any}
use Rattle.rdf_terms.specs.Lists.{IsIn, add_all}
use Rattle.link_uri.specs.declared.link.Link.{Link}
use Rattle.link_uri.specs.Links.{texts, same_link}
use Rattle.reachability.specs.declared.record.Entry.{Entry}
use Rattle.reachability.specs.declared.record.Record.{Record}
use Rattle.reachability.specs.Reach.{Text, Rule}
use Rattle.reachability.specs.Record.{entry_links}
use Rattle.traverse_core.specs.Run.{targets}

-- the links, and those that the entries lead to, each once, where it first appears
abbrev pub known_links : Rule → List Link → List Entry → List Link
known_links rule known [] = known
known_links rule known (e ∷ es) = known_links rule (add_all same_link known (targets rule e.found)) es

-- each entry is of a link that was known before it: one of these, or one that an entry before it leads to
abbrev pub AreInOrder : Rule → List Link → List Entry → Type 0
AreInOrder rule known [] = Unit {0}
AreInOrder rule known (e ∷ es) = IsIn (texts known) e.link × AreInOrder rule (add_all same_link known (targets rule e.found)) es

-- the links that were not looked up, in their order
abbrev pub left_of : List Text → List Text → List Text
left_of looked_up [] = []
left_of looked_up (u ∷ us) = if list_any (bytes_eq u) looked_up then left_of looked_up us else u ∷ left_of looked_up us

-- entries stand in an order in which links can be looked up one after another, and the links that are
-- queued stand in the order in which they became known
pub record IsOrdered (r : Record) (seeds : List Link) (rule : Rule) : Type 0 where
  pub entries : AreInOrder rule (add_all same_link [] seeds) r.entries
  pub queued : r.queued ≡ left_of (entry_links r.entries) (texts (known_links rule (add_all same_link [] seeds) r.entries))

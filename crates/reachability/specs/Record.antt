-- What the record of a run says: what was found at which links, and which are left.
use Rattle.std.specs.Prelude.{ℕ, ◌≡◌, ◌≤◌, ◌⊎◌, List, [], ◌∷◌, ◌++◌, Option, length, map}
use Rattle.rdf_terms.specs.declared.triple.Triple.{Triple}
use Rattle.rdf_terms.specs.Lists.{IsIn, Apart}
use Rattle.link_uri.specs.declared.link.Link.{Link}
use Rattle.reachability.specs.declared.outcome.Outcome.{Outcome}
use Rattle.reachability.specs.declared.outcome.Outcome.TheVariants.{Document, Moved, Refused}
use Rattle.reachability.specs.declared.outcome.Why.{Why}
use Rattle.reachability.specs.declared.record.Cause.{Cause}
use Rattle.reachability.specs.declared.record.Found.{Found}
use Rattle.reachability.specs.declared.record.Found.TheVariants.{Outcome as Told, Unreachable}
use Rattle.reachability.specs.declared.record.Entry.{Entry}
use Rattle.reachability.specs.declared.record.Record.{Record}
use Rattle.reachability.specs.Reach.{Text, Rule, HasEdge, IsReachable, NoLink, HasOutcome}

-- the text of an entry's link
abbrev pub entry_link : Entry → Text
entry_link entry = entry.link

-- the links that were looked up, in order of settling
abbrev pub entry_links : List Entry → List Text
entry_links entries = map entry_link entries

-- the links that the record names: those looked up, then those queued
abbrev pub named_links : Record → List Text
named_links r = entry_links r.entries ++ r.queued

-- an entry says that the link has the outcome; an unreachable link has none
abbrev pub OutcomesOf : List Entry → Text → Outcome → Type 0
OutcomesOf entries text outcome = IsIn entries (record { link = text; found = Told outcome })

-- an entry says that the link couldn't be reached
abbrev pub Unreached : List Entry → Text → Type 0
Unreached entries text = (cause : Cause) × (tries : ℕ) × IsIn entries (record { link = text; found = Unreachable cause tries })

-- an entry says that the link was refused or couldn't be reached
abbrev pub FailedLinks : List Entry → Text → Type 0
FailedLinks entries text = ((why : Why) × OutcomesOf entries text (Refused why)) ⊎ Unreached entries text

-- the triples that were found, and none where there was no document
abbrev pub found_triples : Found → List Triple
found_triples (Told (Document triples)) = triples
found_triples (Told (Moved link)) = []
found_triples (Told (Refused why)) = []
found_triples (Unreachable cause tries) = []

-- the triples of all documents
abbrev pub merged_graph : List Entry → List Triple
merged_graph [] = []
merged_graph (e ∷ es) = found_triples e.found ++ merged_graph es

-- what was found is the link's outcome, or the link couldn't be reached
abbrev pub AgreesWith : (Link → Option Outcome) → Text → Found → Type 0
AgreesWith out text (Told outcome) = HasOutcome out text outcome
AgreesWith out text (Unreachable cause tries) = Unit {0}

-- each entry says what the web has at its link, or that it couldn't be reached
abbrev pub IsFaithful : (Link → Option Outcome) → Record → Type 0
IsFaithful out r = (e : Entry) → IsIn r.entries e → AgreesWith out e.link e.found

-- the record is closed under the edges that it knows, and everything in it is reachable by them
pub record IsTraversed (r : Record) (seeds : List Text) (rule : Rule) (limit : ℕ) : Type 0 where
  pub apart : Apart (named_links r)
  pub seeded : (u : Text) → IsIn seeds u → IsIn (named_links r) u
  pub closed : (u v : Text) → HasEdge (OutcomesOf r.entries) rule u v → IsIn (named_links r) v
  pub reached : (u : Text) → IsIn (named_links r) u → IsReachable (OutcomesOf r.entries) NoLink seeds rule u
  pub limited : length r.entries ≤ limit

-- no link is queued, or as many are looked up as may be
abbrev pub HasEnded : Record → ℕ → Type 0
HasEnded r limit = (r.queued ≡ []) ⊎ (length r.entries ≡ limit)

-- the links looked up are exactly the reachable ones, where paths don't go on from an unreached link;
-- for a told web, `out` is what each link comes to there (`outcome_of` of doc_reader, specs/Outcome.antt)
pub record LooksUpReachable (out : Link → Option Outcome) (r : Record) (seeds : List Text) (rule : Rule) : Type 0 where
  pub only : (u : Text) → IsIn (entry_links r.entries) u → IsReachable (HasOutcome out) (Unreached r.entries) seeds rule u
  pub all : (u : Text) → IsReachable (HasOutcome out) (Unreached r.entries) seeds rule u → IsIn (entry_links r.entries) u

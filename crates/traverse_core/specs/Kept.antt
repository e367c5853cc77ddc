-- What every state of a traversal keeps.
use Rattle.std.specs.Prelude.{ℕ, ◌≡◌, ◌+◌, ◌≤◌, ◌⊎◌, List, [], ◌∷◌, Some, None, true, false, length, drop}
use Rattle.rdf_terms.specs.declared.triple.Triple.{Triple}
use Rattle.rdf_terms.specs.Lists.{IsIn, Apart, add_all}
use Rattle.link_uri.specs.declared.link.Link.{Link}
use Rattle.link_uri.specs.Links.{IsLink, AreLinks, same_link}
use Rattle.link_queue.specs.declared.state.LinkState.{LinkState}
use Rattle.link_queue.specs.declared.state.LinkState.TheVariants.{Settled}
use Rattle.link_queue.specs.Table.{links, marks, first_queued, flying}
use Rattle.outer_ports.specs.Causes.{Rose}
use Rattle.algebra_core.specs.Graphs.{graph}
use Rattle.reach_criteria.specs.declared.criterion.Criterion.{Criterion}
use Rattle.rows_core.specs.declared.pattern.TriplePattern.{TriplePattern}
use Rattle.reachability.specs.declared.record.Entry.{Entry}
use Rattle.reachability.specs.Reach.{Text, HasEdge, IsReachable, NoLink}
use Rattle.reachability.specs.Record.{OutcomesOf, entry_links, found_triples, merged_graph}
use Rattle.algebra_core.specs.declared.query.Query.{Query}
use Rattle.algebra_core.specs.Query.{Answers}
use Rattle.traverse_core.specs.Query.{patterns_of, selected_names}
use Rattle.result_writer.specs.Output.{Output, IsDue}
use Rattle.traverse_core.specs.declared.steps.Halt.TheVariants as halt
use Rattle.traverse_core.specs.Run.{Run, rule_of, seeds_of, TellsIfSure, MayFind}
use Rattle.traverse_core.specs.State.{State}
use Rattle.traverse_core.specs.Order.{known_links, AreInOrder}

-- ---- the table and the entries; a link stands here by its text

-- links differ, and entries name exactly the settled ones, each once; each link is reachable by the
-- entries; each seed and each link that an entry leads to is there; the limit is kept
pub record LinksKept (run : Run) (rows : List (Text × LinkState)) (entries : List Entry) : Type 0 where
  pub apart : Apart (links rows)
  pub once : Apart (entry_links entries)
  pub named : (u : Text) → IsIn (entry_links entries) u → IsIn rows (u, Settled)
  pub settled : (u : Text) → IsIn rows (u, Settled) → IsIn (entry_links entries) u
  pub reached : (u : Text) → IsIn (links rows) u → IsReachable (OutcomesOf entries) NoLink (seeds_of run) (rule_of run) u
  pub seeded : (u : Text) → IsIn (seeds_of run) u → IsIn (links rows) u
  pub onward : (u v : Text) → HasEdge (OutcomesOf entries) (rule_of run) u v → IsIn (links rows) v
  pub limited : flying rows + length entries ≤ run.limit

-- the table lists the links in the order in which they became known: the seeds, and then those that
-- the entries lead to; each entry is of a link that was known before it
pub record OrderKept (run : Run) (rows : List (Link × LinkState)) (entries : List Entry) : Type 0 where
  pub known : links rows ≡ known_links (rule_of run) (add_all same_link [] run.seeds) entries
  pub order : AreInOrder (rule_of run) (add_all same_link [] run.seeds) entries

-- ---- the log

-- the triples of the last entry
abbrev pub last_triples : List Entry → List Triple
last_triples [] = []
last_triples (e ∷ []) = found_triples e.found
last_triples (e ∷ f ∷ es) = last_triples (f ∷ es)

-- the log is the merged graph without repeats, and what is not drawn is of the last entry's document
pub record LogKept (entries : List Entry) (log : List Triple) (drawn : ℕ) : Type 0 where
  pub once : Apart log
  pub merged : log ≡ graph (merged_graph entries)
  pub within : drawn ≤ length log
  pub last : (t : Triple) → IsIn (drop drawn log) t → IsIn (last_triples entries) t

-- ---- the entries

-- the entry is of the link of its text, and says what a look-up of it may find
pub record EntryKept (run : Run) (e : Entry) : Type 0 where
  pub link : Link
  pub valid_links : IsLink link
  pub text : link.text ≡ e.link
  pub may : MayFind run link e.found

-- ---- the output

-- what was written, what is pending and what waits are one text of results: before closing the head
-- alone, and once closed that of answers over the log
pub record OutputKept (run : Run) (log : List Triple) (out : Output) : Type 0 where
  pub names : out.names ≡ selected_names run.query
  pub early : out.closed ≡ false → out.rows ≡ []
  pub answers : out.closed ≡ true → Answers run.query log out.rows
  pub due : (before : List ℕ) → run.content ≡ Some before → IsDue before out

-- ---- closing and halting

-- closed means complete; halted by output means that the sink failed
pub record StopKept (run : Run) (s : State) : Type 0 where
  pub landed : s.out.closed ≡ true → flying s.table ≡ 0
  pub dry : s.out.closed ≡ true → s.drawn ≡ length s.log
  pub ended : s.out.closed ≡ true → (first_queued s.table ≡ None) ⊎ (length s.entries ≡ run.limit)
  pub risen : run.faults ≤ s.out.faults
  pub failed : s.halted ≡ Some halt.Output → Rose run.faults s.out.faults

-- ---- all of it

pub record IsKept (run : Run) (s : State) : Type 0 where
  pub told : TellsIfSure run.fetch
  pub reach : LinksKept run (marks s.table) s.entries
  pub order : OrderKept run s.table s.entries
  pub valid_links : AreLinks (links s.table)
  pub log : LogKept s.entries s.log s.drawn
  pub entries : (e : Entry) → IsIn s.entries e → EntryKept run e
  pub output : OutputKept run s.log s.out
  pub stop : StopKept run s

-- the fields of a traversal that its state does not show are the run's
pub record IsTied (run : Run) (query : Query) (criterion : Criterion) (patterns : List TriplePattern) (limit in_flight : ℕ) (s : State) : Type 0 where
  pub same_query : query ≡ run.query
  pub same_criterion : criterion ≡ run.criterion
  pub same_patterns : patterns ≡ patterns_of run.query
  pub same_limit : limit ≡ run.limit
  pub counted : in_flight ≡ flying s.table
  pub kept : IsKept run s

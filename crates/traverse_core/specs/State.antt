-- The state of a traversal, and what is said of one state.
use Rattle.std.specs.Prelude.{ℕ, ◌≡◌, ◌+◌, List, Bool, not, ◌&&◌, if◌then◌else◌, Option, None, is_none, nat_lt, length}
use Rattle.rdf_terms.specs.declared.triple.Triple.{Triple}
use Rattle.link_uri.specs.declared.link.Link.{Link}
use Rattle.link_queue.specs.declared.state.LinkState.{LinkState}
use Rattle.link_queue.specs.Table.{first_queued, flying}
use Rattle.reachability.specs.declared.record.Entry.{Entry}
use Rattle.result_writer.specs.Output.{Output, IsClear}
use Rattle.traverse_core.specs.declared.steps.Halt.{Halt}
use Rattle.traverse_core.specs.Run.{Run}

-- the table of links with their states; the entries, in order of settling; the log of triples; how
-- many of them are drawn; the output, with the rows so far; and whether and how it is halted
pub record State : Type 0 where
  pub table : List (Link × LinkState)
  pub entries : List Entry
  pub log : List Triple
  pub drawn : ℕ
  pub out : Output
  pub halted : Option Halt

-- neither halted nor closed
abbrev pub is_running : State → Bool
is_running s = not s.out.closed && is_none s.halted

-- the number that may be taken next: the first queued link's, while the run goes on and fewer than
-- the limit are in flight and settled together
abbrev pub next_of : Run → State → Option ℕ
next_of run s = if is_running s && nat_lt (flying s.table + length s.entries) run.limit then first_queued s.table else None

-- every logged triple is drawn
abbrev pub IsDry : State → Type 0
IsDry s = s.drawn ≡ length s.log

-- nothing is in flight, all is drawn and written, and nothing may be taken
pub record MayClose (run : Run) (s : State) : Type 0 where
  pub landed : flying s.table ≡ 0
  pub dry : IsDry s
  pub clear : IsClear s.out
  pub last : next_of run s ≡ None

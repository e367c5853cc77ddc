-- The steps of a traversal: the state after each is a function of the state before, or a relation
-- to it where the rows or the sink decide.
use Rattle.std.specs.Prelude.{ℕ, ◌≡◌, ◌+◌, ◌<◌, ◌≤◌, ◌⊎◌, List, [], ◌∷◌, ◌++◌, Option, Some, None, IsTrue, if◌then◌else◌, is_none, false, length, slice_get}
use Rattle.rdf_terms.specs.Lists.{IsIn, add_all}
use Rattle.rdf_terms.specs.Same.{same_triple}
use Rattle.link_uri.specs.declared.link.Link.{Link}
use Rattle.link_queue.specs.declared.state.LinkState.{LinkState}
use Rattle.link_queue.specs.declared.state.LinkState.TheVariants.{Queued, InFlight, Settled}
use Rattle.link_queue.specs.Table.{state_at, with_state, queue_all}
use Rattle.rows_core.specs.Rows.{Cells}
use Rattle.outer_ports.specs.Causes.{RoseOnce}
use Rattle.result_writer.specs.Format.{head_text}
use Rattle.reachability.specs.declared.record.Found.{Found}
use Rattle.reachability.specs.Reach.{Rule, Text}
use Rattle.reachability.specs.Record.{found_triples}
use Rattle.algebra_core.specs.Query.{Answers}
use Rattle.traverse_core.specs.Query.{selected_names}
use Rattle.result_writer.specs.declared.written.Written.{Written}
use Rattle.result_writer.specs.declared.written.Written.TheVariants.{Wrote, Clear, Failed}
use Rattle.result_writer.specs.Output.{IsClear, WritesSome, KeepsText, closed_by}
use Rattle.traverse_core.specs.declared.steps.Halt.TheVariants as halt
use Rattle.traverse_core.specs.declared.steps.Command.{Command}
use Rattle.traverse_core.specs.declared.steps.Command.TheVariants as step
use Rattle.traverse_core.specs.Run.{Run, rule_of, HasLinks, MayFind, targets}
use Rattle.traverse_core.specs.State.{State, is_running, next_of, IsDry, MayClose}

-- the seeds, each once, are queued, the head is pending, and these rows wait
abbrev pub opened : Run → List Cells → State
opened run rows = record {
  table = queue_all [] run.seeds;
  entries = [];
  log = [];
  drawn = 0;
  out = record { names = selected_names run.query; rows = rows; handed = 0; pending = head_text (selected_names run.query); closed = false; content = run.content; faults = run.faults };
  halted = None;
}

-- open: rows may wait already, in any order
pub record Opens (run : Run) (t : State) : Type 0 where
  pub rows : List Cells
  pub is : t ≡ opened run rows

-- the link of the number has another state
abbrev pub restated : State → ℕ → LinkState → State
restated s number state = record s { table = with_state s.table number state }

-- take: the number that may be taken is in flight
abbrev pub taken_at : State → Option ℕ → State
taken_at s (Some number) = restated s number InFlight
taken_at s None = s

abbrev pub taken : Run → State → State
taken run s = taken_at s (next_of run s)

-- settle: the entry is appended, the triples that the log lacks are logged and the links that the table lacks are queued, each in order of first appearance
abbrev pub settled : Rule → State → ℕ → Text → Found → State
settled rule s number text found = record s {
  table = with_state (queue_all s.table (targets rule found)) number Settled;
  entries = s.entries ++ record { link = text; found = found } ∷ [];
  log = add_all same_triple s.log (found_triples found);
}

-- rows come to wait behind the others, in any order
abbrev pub with_rows : State → List Cells → State
with_rows s more = record s { out = record s.out { rows = s.out.rows ++ more } }

-- one more triple is drawn, and rows may come to wait
pub record DrawsOne (s t : State) : Type 0 where
  pub less : s.drawn < length s.log
  pub more : List Cells
  pub is : t ≡ record (with_rows s more) { drawn = s.drawn + 1 }

-- draw: one more triple is drawn, or none where all are
abbrev pub Draws : State → State → Type 0
Draws s t = (IsDry s × (t ≡ s)) ⊎ DrawsOne s t

-- triples are drawn, and rows may come to wait
pub record DrawsOn (s t : State) : Type 0 where
  pub later : s.drawn ≤ t.drawn
  pub more : List Cells
  pub is : t ≡ record (with_rows s more) { drawn = t.drawn }

-- write: the output writes; where the sink fails the run is halted
abbrev pub WritesOut : State → State → Written → Type 0
WritesOut s t Wrote = WritesSome s.out t.out × (t ≡ record s { out = t.out })
WritesOut s t Clear = IsClear s.out × (t ≡ s)
WritesOut s t Failed = KeepsText s.out t.out × RoseOnce s.out.faults t.out.faults × (t ≡ record s { out = t.out; halted = Some halt.Output })

-- close: the rows so far and those that come behind them are the answers over the log, and the tail
-- follows them
pub record Closes (run : Run) (s t : State) : Type 0 where
  pub more : List Cells
  pub answers : Answers run.query s.log (s.out.rows ++ more)
  pub is : t ≡ record s { out = closed_by s.out more }

-- halt, for want of memory
abbrev pub halted_by_memory : State → State
halted_by_memory s = record s { halted = if is_none s.halted then Some halt.Memory else s.halted }

-- ---- the machine

-- when the link of a number may be settled with what was found
pub record MaySettle (run : Run) (number : ℕ) (link : Link) (found : Found) (s : State) : Type 0 where
  pub runs : IsTrue (is_running s)
  pub out : slice_get s.table number ≡ Some (link, InFlight)
  pub dry : IsDry s
  pub clear : IsClear s.out
  pub links : HasLinks found
  pub may : MayFind run link found

-- the conditions of a command's step
abbrev pub MayStep : Run → Command → State → Type 0
MayStep run step.Take s = Unit {0}
MayStep run (step.Settle number link found) s = MaySettle run number link found s
MayStep run (step.GiveBack number) s = state_at s.table number ≡ Some InFlight
MayStep run step.Draw s = IsTrue (is_running s)
MayStep run step.Write s = s.halted ≡ None
MayStep run step.Close s = IsTrue (is_running s) × MayClose run s
MayStep run step.Halt s = Unit {0}

-- the step of a command
abbrev pub Steps : Run → Command → State → State → Type 0
Steps run step.Take s t = t ≡ taken run s
Steps run (step.Settle number link found) s t = t ≡ settled (rule_of run) s number link.text found
Steps run (step.GiveBack number) s t = t ≡ restated s number Queued
Steps run step.Draw s t = Draws s t
Steps run step.Write s t = (written : Written) × WritesOut s t written
Steps run step.Close s t = Closes run s t
Steps run step.Halt s t = t ≡ halted_by_memory s

-- the step of the command takes memory, which may be wanting
abbrev pub TakesMemory : Command → Type 0
TakesMemory step.Take = ⊥
TakesMemory (step.Settle number link found) = Unit {0}
TakesMemory (step.GiveBack number) = ⊥
TakesMemory step.Draw = Unit {0}
TakesMemory step.Write = Unit {0}
TakesMemory step.Close = Unit {0}
TakesMemory step.Halt = ⊥

-- what a command does: where its conditions hold it makes its step, and else it changes nothing
abbrev pub Does : Run → Command → State → State → Type 0
Does run command s t = (MayStep run command s × Steps run command s t) ⊎ ((MayStep run command s → ⊥) × (t ≡ s))

-- the conditions of the command's step hold, and the step takes memory
abbrev pub Wants : Run → Command → State → Type 0
Wants run command s = MayStep run command s × TakesMemory command

-- the commands, one after the other in their order, lead from s to t
abbrev pub Follows : Run → List Command → State → State → Type 0
Follows run [] s t = t ≡ s
Follows run (command ∷ commands) s t = (between : State) × Does run command s between × Follows run commands between t

-- the first of the commands lead from s to t, where the next one's step wants memory
pub record FollowsInPart (run : Run) (commands : List Command) (s t : State) : Type 0 where
  pub made : List Command
  pub next : Command
  pub left : List Command
  pub all : commands ≡ made ++ next ∷ left
  pub follows : Follows run made s t
  pub wants : Wants run next t

-- a found that is settled by a command may be found at its link
abbrev pub MayBe : Run → Command → Type 0
MayBe run (step.Settle number link found) = HasLinks found × MayFind run link found
MayBe run step.Take = Unit {0}
MayBe run (step.GiveBack number) = Unit {0}
MayBe run step.Draw = Unit {0}
MayBe run step.Write = Unit {0}
MayBe run step.Close = Unit {0}
MayBe run step.Halt = Unit {0}

-- what each of the commands settles may be found at its link
abbrev pub AllMayBe : Run → List Command → Type 0
AllMayBe run commands = (c : Command) → IsIn commands c → MayBe run c

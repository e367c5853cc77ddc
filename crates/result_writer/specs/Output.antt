-- Rows on their way to a sink: a row waits, becomes text, and the text goes out in pieces.
use Rattle.std.specs.Prelude.{ℕ, ◌≡◌, ◌<◌, ◌≤◌, ◌+◌, ◌==◌, List, [], ◌∷◌, ◌++◌, Bool, true, false, Option, Some, length, take, drop}
use Rattle.std.specs.Io.KnownBytes.{append_known}
use Rattle.rdf_terms.specs.Lists.{IsIn}
use Rattle.rows_core.specs.Rows.{Cells}
use Rattle.outer_ports.specs.Causes.{RoseOnce}
use Rattle.result_writer.specs.Format.{head_text, row_text, rows_text, tail_text, result_text}
use Rattle.result_writer.specs.declared.written.Written.{Written}
use Rattle.result_writer.specs.declared.written.Written.TheVariants.{Wrote, Clear, Failed}

-- the names of the selected variables; the rows so far, of which the first so many became text; the
-- text that is not yet written; whether no more rows come; and what the sink tells
pub record Output : Type 0 where
  pub names : List (List ℕ)
  pub rows : List Cells
  pub handed : ℕ
  pub pending : List ℕ
  pub closed : Bool
  pub content : Option (List ℕ)
  pub faults : ℕ

-- what each output keeps: each row has a cell for each name
pub record IsOutput (names : List (List ℕ)) (rows : List Cells) (handed at : ℕ) (text : List ℕ) : Type 0 where
  pub within : handed ≤ length rows
  pub at_within : at ≤ length text
  pub wide : (row : Cells) → IsIn rows row → length names ≡ length row

-- ---- texts

-- the tail, where it follows at once: no more rows come, and none waits
abbrev pub tail_behind : Bool → List Cells → List ℕ
tail_behind true [] = tail_text
tail_behind true (row ∷ rows) = []
tail_behind false rows = []

-- the text of a row that waits, and the tail where it follows
abbrev pub piece : List (List ℕ) → Bool → Bool → Cells → List Cells → List ℕ
piece names closed first row rest = row_text names row first ++ tail_behind closed rest

-- the texts of the rows that wait, and the tail
abbrev pub waiting_text : List (List ℕ) → Bool → Bool → List Cells → List ℕ
waiting_text names closed first [] = []
waiting_text names closed first (row ∷ rest) = piece names closed first row rest ++ waiting_text names closed false rest

-- the text of an output: the head and the rows, and once closed the tail
abbrev pub due_text : List (List ℕ) → Bool → List Cells → List ℕ
due_text names true rows = result_text names rows
due_text names false rows = head_text names ++ rows_text names rows

-- behind what the sink held at first it holds text that the pending text and the texts of the waiting rows complete
pub record IsDue (before : List ℕ) (o : Output) : Type 0 where
  pub written : List ℕ
  pub held : o.content ≡ Some (before ++ written)
  pub whole : written ++ (o.pending ++ waiting_text o.names o.closed (o.handed == 0) (drop o.handed o.rows)) ≡ due_text o.names o.closed o.rows

-- ---- steps

-- no text is pending, and no row waits
abbrev pub IsClear : Output → Type 0
IsClear o = (o.pending ≡ []) × (o.handed ≡ length o.rows)

abbrev pub text_made : Output → List ℕ → List Cells → Output
text_made o (byte ∷ bytes) waiting = o
text_made o [] [] = o
text_made o [] (row ∷ rest) = record o { handed = o.handed + 1; pending = piece o.names o.closed (o.handed == 0) row rest }

-- where no text is pending, the first row that waits is made text
abbrev pub with_text : Output → Output
with_text o = text_made o o.pending (drop o.handed o.rows)

-- the sink took one or more bytes from the front of the pending text: they leave it, what the sink
-- tells grows by just them, and the sink's count of faults stays
pub record WritesSome (o p : Output) : Type 0 where
  pub count : ℕ
  pub some : 0 < count
  pub within : count ≤ length (with_text o).pending
  pub is : p ≡ record (with_text o) { pending = drop count (with_text o).pending; content = append_known (with_text o).content (take count (with_text o).pending) }

-- nothing changes but the sink's count of faults, which doesn't fall
pub record KeepsText (o p : Output) : Type 0 where
  pub is : p ≡ record o { faults = p.faults }
  pub later : o.faults ≤ p.faults

-- one step of writing, by its answer
abbrev pub Writes : Output → Output → Written → Type 0
Writes o p Wrote = WritesSome o p
Writes o p Clear = IsClear o × (p ≡ o)
Writes o p Failed = KeepsText o p × RoseOnce o.faults p.faults

-- the last rows come behind the others, and no more follow; where none come the tail follows at once
abbrev pub closed_by : Output → List Cells → Output
closed_by o more = record o { rows = o.rows ++ more; pending = tail_behind true more; closed = true }

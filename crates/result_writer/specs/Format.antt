-- The format that results are written in: a head, a text for each row, and a tail. What is written, and each promise on it,
-- speaks of these alone. Which format they are is said here, in `proofs/SomeText.antt` and in `src/format.rt`, and nowhere else.
use Rattle.std.specs.Prelude.{ℕ, List, [], ◌∷◌, ◌++◌, Bool, true, false}
use Rattle.std.specs.List.{flat_map}
use Rattle.rows_core.specs.Rows.{Cells}
use Rattle.json_results.specs.Results as json

-- the text in front of the rows, which names the selected variables
abbrev pub head_text : List (List ℕ) → List ℕ
head_text names = json.head_text names

-- the text of a row, with what parts it from the row before it, or from the head where it is the first
abbrev pub row_text : List (List ℕ) → Cells → Bool → List ℕ
row_text names row first = json.row_text names row first

-- the text behind the rows
abbrev pub tail_text : List ℕ
tail_text = json.tail_text

-- ---- for every format

-- the texts of rows behind the first
abbrev pub more_rows_text : List (List ℕ) → List Cells → List ℕ
more_rows_text names rows = flat_map (λ row. row_text names row false) rows

-- the texts of rows, in their order
abbrev pub rows_text : List (List ℕ) → List Cells → List ℕ
rows_text names [] = []
rows_text names (row ∷ rows) = row_text names row true ++ more_rows_text names rows

-- the whole text
abbrev pub result_text : List (List ℕ) → List Cells → List ℕ
result_text names rows = head_text names ++ rows_text names rows ++ tail_text

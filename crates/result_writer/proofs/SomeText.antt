-- What is needed of a format: each row has some text.
use Rattle.std.proofs.Common.{ℕ, ◌<◌, List, ◌++◌, Bool, true, false, arith, length}
use Rattle.std.specs.Prelude.{if◌then◌else◌, codes}
use Rattle.rows_core.specs.Rows.{Cells}
use Rattle.json_results.specs.Results.{row_object}
use Rattle.result_writer.specs.Format.{row_text}

front_some : (first : Bool) (object : List ℕ) → 0 < length ((if first then codes "\n" else codes ",\n") ++ object)
front_some true object = omega arith
front_some false object = omega arith

-- a row has some text
pub row_some : (names : List (List ℕ)) (row : Cells) (first : Bool) → 0 < length (row_text names row first)
row_some names row first = front_some first (row_object names row)

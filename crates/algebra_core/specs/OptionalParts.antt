-- LeftJoin in the words of the standard (SPARQL 1.1 Query Language, section 18.5): a filtered Join, and Diff.
use Rattle.std.specs.Prelude.{Bool, ◌&&◌, not, List, filter}
use Rattle.std.specs.List.{list_any}
use Rattle.rows_core.specs.Rows.{Cells, fits, merged}

-- a row of the second list is compatible, and the test holds on the merge
abbrev pub has_match : (Cells → Bool) → List Cells → Cells → Bool
has_match p ys a = list_any (λ b. fits a b && p (merged a b)) ys

-- Diff: the rows of the first list that have no match in the second
abbrev pub unmatched : (Cells → Bool) → List Cells → List Cells → List Cells
unmatched p xs ys = filter (λ a. not (has_match p ys a)) xs

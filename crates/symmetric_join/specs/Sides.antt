-- The two sides of a join that grows.
use Rattle.std.specs.Prelude.{ℕ, List, [], ◌∷◌, ◌++◌, take}
use Rattle.std.specs.List.{flat_map}
use Rattle.rows_core.specs.Rows.{Cells}
use Rattle.symmetric_join.specs.Joins.{joined, join}

-- the number of variables, and the rows fed to each side, in order of coming
pub record Sides : Type 0 where
  pub width : ℕ
  pub lefts : List Cells
  pub rights : List Cells

-- the sides with one row more on the left
abbrev pub with_left : Sides → Cells → Sides
with_left s row = record s { lefts = s.lefts ++ row ∷ [] }

-- the sides with one row more on the right
abbrev pub with_right : Sides → Cells → Sides
with_right s row = record s { rights = s.rights ++ row ∷ [] }

-- the first so many rows of each side
abbrev pub shortened : Sides → ℕ → ℕ → Sides
shortened s lefts rights = record s { lefts = take lefts s.lefts; rights = take rights s.rights }

-- the merges of a left row with the compatible rights, in the rights' order
abbrev pub left_merges : Cells → List Cells → List Cells
left_merges row rights = flat_map (joined row) rights

-- the merges of the compatible lefts with a right row, in the lefts' order
abbrev pub right_merges : Cells → List Cells → List Cells
right_merges row lefts = flat_map (λ left. joined left row) lefts

-- the join of the two sides
abbrev pub output : Sides → List Cells
output s = join s.lefts s.rights

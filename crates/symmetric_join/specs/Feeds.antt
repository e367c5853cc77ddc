-- Rows that are fed to a join one after another, each to the left or to the right.
use Rattle.std.specs.Prelude.{List, [], ◌∷◌, ◌++◌}
use Rattle.rows_core.specs.Rows.{Cells}
use Rattle.symmetric_join.specs.declared.fed.Fed.{Fed}
use Rattle.symmetric_join.specs.declared.fed.Fed.TheVariants.{Left, Right}
use Rattle.symmetric_join.specs.Sides.{Sides, with_left, with_right, left_merges, right_merges}

-- a row, and the side that it comes to
pub record Feed : Type 0 where
  pub side : Fed
  pub row : Cells

abbrev pub before_if : Fed → Fed → Cells → List Cells → List Cells
before_if Left Left row rows = row ∷ rows
before_if Right Right row rows = row ∷ rows
before_if Left Right row rows = rows
before_if Right Left row rows = rows

-- the rows that came to a side, in order of coming
abbrev pub fed_to : Fed → List Feed → List Cells
fed_to side [] = []
fed_to side (f ∷ fs) = before_if side f.side f.row (fed_to side fs)

-- the sides with one row more
abbrev pub with_row : Fed → Sides → Cells → Sides
with_row Left s row = with_left s row
with_row Right s row = with_right s row

-- what a feed gives: `feed_left`, `feed_right`, clause order
abbrev pub merges_by : Fed → Sides → Cells → List Cells
merges_by Left s row = left_merges row s.rights
merges_by Right s row = right_merges row s.lefts

-- what the feeds give together, from these sides on
abbrev pub given_by : List Feed → Sides → List Cells
given_by [] s = []
given_by (f ∷ fs) s = merges_by f.side s f.row ++ given_by fs (with_row f.side s f.row)

-- the sides after the feeds
abbrev pub after : List Feed → Sides → Sides
after [] s = s
after (f ∷ fs) s = after fs (with_row f.side s f.row)

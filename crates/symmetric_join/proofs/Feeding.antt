-- What feeds give together is what the join gains by them.
use Rattle.std.proofs.Common.{◌≡◌, ℕ, List, [], ◌∷◌, ◌++◌, refl, sym, ap, ◌∙◌, append_assoc, append-nil, IsPermutation}
use Rattle.std.proofs.lemmas.List.Sorted.{IsPermutation-refl}
use Rattle.rows_core.specs.Rows.{Cells}
use Rattle.symmetric_join.specs.declared.fed.Fed.{Fed}
use Rattle.symmetric_join.specs.declared.fed.Fed.TheVariants.{Left, Right}
use Rattle.symmetric_join.specs.Joins.{join}
use Rattle.symmetric_join.specs.Sides.{Sides, output}
use Rattle.symmetric_join.specs.Feeds.{Feed, fed_to, with_row, merges_by, given_by, after}
use Rattle.symmetric_join.proofs.Bags.{same_bag, then_bag, back, both}
use Rattle.symmetric_join.proofs.Gains.{gains_left, gains_right}

gained_by : (side : Fed) (s : Sides) (row : Cells) → IsPermutation (output (with_row side s row)) (output s ++ merges_by side s row)
gained_by Left s row = gains_left s.lefts s.rights row
gained_by Right s row = gains_right s.lefts s.rights row

pub gained : (fs : List Feed) (s : Sides) → IsPermutation (output (after fs s)) (output s ++ given_by fs s)
gained [] s = same_bag (sym (append-nil (output s)))
gained (f ∷ fs) s =
    let t = with_row f.side s f.row in
    then_bag (gained fs t)
    (then_bag (both (gained_by f.side s f.row) (IsPermutation-refl (given_by fs t))) (same_bag (append_assoc (output s) (merges_by f.side s f.row) (given_by fs t))))

-- ---- the sides after the feeds are the rows fed to each

abbrev fed : List Feed → Sides → Sides
fed fs s = record s { lefts = s.lefts ++ fed_to Left fs; rights = s.rights ++ fed_to Right fs }

side_after : (side : Fed) (row : Cells) (fs : List Feed) (s : Sides) → fed fs (with_row side s row) ≡ fed (record { side = side; row = row } ∷ fs) s
side_after Left row fs s = ap (λ (l : List Cells). record s { lefts = l; rights = s.rights ++ fed_to Right fs }) (append_assoc s.lefts (row ∷ []) (fed_to Left fs))
side_after Right row fs s = ap (λ (l : List Cells). record s { lefts = s.lefts ++ fed_to Left fs; rights = l }) (append_assoc s.rights (row ∷ []) (fed_to Right fs))

none_fed : (s : Sides) → s ≡ fed [] s
none_fed s = ap (λ (l : List Cells). record s { lefts = l; rights = s.rights }) (sym (append-nil s.lefts)) ∙ ap (λ (l : List Cells). record s { lefts = s.lefts ++ []; rights = l }) (sym (append-nil s.rights))

pub after_is : (fs : List Feed) (s : Sides) → after fs s ≡ fed fs s
after_is [] s = none_fed s
after_is (f ∷ fs) s = after_is fs (with_row f.side s f.row) ∙ side_after f.side f.row fs s

-- from no rows on
pub all_given : (width : ℕ) (fs : List Feed) → IsPermutation (given_by fs (record { width = width; lefts = []; rights = [] })) (join (fed_to Left fs) (fed_to Right fs))
all_given width fs =
    let none : Sides = record { width = width; lefts = []; rights = [] } in
    then_bag (back (gained fs none)) (same_bag (ap output (after_is fs none)))

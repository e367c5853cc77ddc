-- What the code holds of groups, and of the variables in patterns.
use Rattle.std.specs.Prelude.{ℕ, ◌==◌, List, [], ◌∷◌, ◌++◌, if◌then◌else◌}
use Rattle.std.specs.List.{list_any}
use Rattle.rows_core.specs.declared.pattern.Spot.{Spot}
use Rattle.rows_core.specs.declared.pattern.Spot.TheVariants as spots
use Rattle.rows_core.specs.declared.pattern.TriplePattern.{TriplePattern}
use Rattle.algebra_translation.specs.declared.groups.Group.{Group}
use Rattle.algebra_translation.specs.declared.groups.PartialGroup.{PartialGroup as HeldStage}
use Rattle.algebra_translation.specs.Translation.{PartialGroup, Grouped, with_once}

abbrev pub view : HeldStage → PartialGroup
view s = record { algebra = s.algebra; patterns = s.patterns.items; filters = s.filters.items }

abbrev pub view_group : Group → Grouped
view_group g = record { algebra = g.algebra; filters = g.filters.items }

-- the variables with that of a place of a pattern, each once
abbrev pub with_spot : List ℕ → Spot → List ℕ
with_spot seen (spots.Term t) = seen
with_spot seen (spots.Var v) = with_once seen v

abbrev pub with_pattern : List ℕ → TriplePattern → List ℕ
with_pattern seen p = with_spot (with_spot (with_spot seen p.s) p.p) p.o

abbrev pub with_patterns : List ℕ → List TriplePattern → List ℕ
with_patterns seen [] = seen
with_patterns seen (p ∷ ps) = with_patterns (with_pattern seen p) ps

-- the variables that stand in the patterns, in the order of first appearance, each once
abbrev pub variables_in : List TriplePattern → List ℕ
variables_in patterns = with_patterns [] patterns

-- the list with one more variable, where that is among some
abbrev pub with_member : List ℕ → ℕ → List ℕ → List ℕ
with_member all v some = if list_any (λ w. w == v) some then all ++ v ∷ [] else all

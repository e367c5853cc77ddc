use Rattle.std.proofs.Common.{◌≡◌, ◌++◌, ◌-◌}
use Rattle.algebra_translation.specs.Translation.{in_scope_from, in_scope}
use Rattle.algebra_translation.proofs.selection.selected_by_star.Given as goal

abbrev pub invariant-loop-variable : goal.invariant-loop-variable
invariant-loop-variable l = l.all.items ++ in_scope_from l.variable (l.names - l.variable) l.patterns ≡ in_scope l.names l.patterns

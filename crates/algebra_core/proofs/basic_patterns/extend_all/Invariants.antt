use Rattle.std.proofs.Common.{◌≡◌, take}
use Rattle.algebra_core.specs.Graphs.{all_extended}
use Rattle.algebra_core.proofs.basic_patterns.extend_all.Given as goal

abbrev pub invariant-loop-pattern : goal.invariant-loop-pattern
invariant-loop-pattern l = l.all.items ≡ all_extended (take l.pattern-index l.patterns) l.graph l.fn.rows.items

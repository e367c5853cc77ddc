use Rattle.std.proofs.Common.{◌≡◌, take}
use Rattle.algebra_core.specs.Ranks.{key_values}
use Rattle.algebra_core.proofs.ordering.key_values.Given as goal

abbrev pub invariant-loop-key : goal.invariant-loop-key
invariant-loop-key l = l.all ≡ key_values (take l.key-index l.keys) l.row

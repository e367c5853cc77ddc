use Rattle.std.proofs.Common.{◌≡◌, Some, take}
use Rattle.symmetric_join.specs.Keys.{key_of}
use Rattle.symmetric_join.proofs.table.key_of.Given as goal

abbrev pub invariant-loop-var : goal.invariant-loop-var
invariant-loop-var l = key_of (take l.var-index l.vars) l.row ≡ Some l.terms

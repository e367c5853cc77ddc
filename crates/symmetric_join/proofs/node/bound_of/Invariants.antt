use Rattle.std.proofs.Common.{◌≡◌, filter, take}
use Rattle.symmetric_join.specs.Keys.{is_bound}
use Rattle.symmetric_join.proofs.node.bound_of.Given as goal

abbrev pub invariant-loop-var : goal.invariant-loop-var
invariant-loop-var l = l.out.items ≡ filter (is_bound l.row) (take l.var-index l.vars)

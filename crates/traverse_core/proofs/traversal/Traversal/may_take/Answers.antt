use Rattle.std.proofs.Common.{◌≤◌, ◌+◌, length, arith}
use Rattle.traverse_core.proofs.Kept.{room}
use Rattle.traverse_core.proofs.traversal.Traversal.may_take.Goals as goal

pub overflow_add-result : goal.overflow_add-result
overflow_add-result g c =
    let r : c.self.inside.in_flight + length c.self.inside.entries.items ≤ c.self.inside.limit = room _ _ _ _ _ _ _ c.self.invariant in
    omega arith

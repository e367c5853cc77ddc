use Rattle.std.proofs.Common.{◌≡◌, ◌<◌, ◌+◌, ◌∙◌, sym, ap, length, false, arith}
use Rattle.link_queue.specs.Table.{flying}
use Rattle.traverse_core.proofs.Kept.{may_parts, taken_tied}
use Rattle.traverse_core.proofs.traversal.Traversal.take.Goals as goal

pub invariant_of-self-2 : goal.invariant_of-self-2
invariant_of-self-2 g c =
    let p = may_parts c.args.self.now (flying c.args.self.now.table + length c.args.self.now.entries) g.J.Job.run.limit (sym c.if-not-may_take.ensures) in
    let open' : c.self.inside.output.closed ≡ false = ap (λ s. s.out.closed) c.self.view_is ∙ p.0 in
    let a : flying c.self.inside.table ≡ flying c.args.self.now.table = ap (λ s. flying s.table) c.self.view_is in
    let b : length c.self.inside.entries.items ≡ length c.args.self.now.entries = ap (λ s. length s.entries) c.self.view_is in
    let counted = c.self.invariant.counted in
    let limit = c.self.invariant.same_limit in
    let less = p.1 in
    let room : c.self.inside.in_flight + length c.self.inside.entries.items < c.self.inside.limit = omega arith in
    rw c.in_ok-number.ensures.taken (taken_tied _ _ _ _ _ _ _ _ c.self.invariant open' (sym c.in_ok-number.ensures.first) room)

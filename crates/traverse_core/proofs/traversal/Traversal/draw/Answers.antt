use Rattle.std.proofs.Common.{◌≡◌, ◌<◌, ◌∙◌, ap, length, false, arith}
use Rattle.traverse_core.proofs.Kept.{running_open, drawn_tied}
use Rattle.traverse_core.proofs.traversal.Traversal.draw.Goals as goal

pub invariant_of-self : goal.invariant_of-self
invariant_of-self g c =
    let open' : c.self.inside.output.closed ≡ false = ap (λ s. s.out.closed) c.self.view_is ∙ running_open c.args.self.now c.requires in
    let within = c.self.invariant.kept.log.within in
    let less : c.self.inside.drawn < length c.self.inside.log = omega arith in
    drawn_tied _ _ _ _ _ _ _ c.self.invariant open' less

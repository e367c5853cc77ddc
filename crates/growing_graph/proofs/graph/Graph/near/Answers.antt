use Rattle.std.proofs.Common.{refl}
use Rattle.growing_graph.specs.declared.index.Part.TheVariants.{Subject, Predicate, Object}
use Rattle.growing_graph.proofs.graph.Graph.near.Goals as goal

pub returns : goal.returns
returns c =
    let p = c.args.pattern.now in
    let ts = c.self.inside.set.keys in
    rw (← c.self.view_is)
    (c.nearer-2.ensures p ts
    (c.nearer.ensures p ts (c.near_of-subject.ensures Subject p ts refl c.self.invariant.subject) (c.near_of-object.ensures Object p ts refl c.self.invariant.object))
    (c.near_of-predicate.ensures Predicate p ts refl c.self.invariant.predicate))

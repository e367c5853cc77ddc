use Rattle.std.proofs.Common.{◌∙◌}
use Rattle.growing_graph.proofs.Covering.{found_all}
use Rattle.growing_graph.proofs.graph.Graph.matching.Goals as goal

pub returns : goal.returns
returns c =
    found_all c.args.pattern.now c.args.self.now c.as_slice.result.now c.as_slice-2.result.now c.near-near.result.places.now c.near-near.result.listed c.new-found.result.items c.push_matching_at.new.out.items c.push_matching_from.new.out.items
    c.near-near.ensures c.new-found.ensures.items c.in_ok-push_matching_at.ensures c.in_ok-push_matching_from.ensures (c.as_slice.ensures.keys ∙ c.self.view_is) (c.as_slice-2.ensures.keys ∙ c.self.view_is)

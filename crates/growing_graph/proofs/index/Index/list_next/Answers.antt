use Rattle.std.proofs.Common.{◌∙◌, ap}
use Rattle.growing_graph.specs.Indexes.{part_of}
use Rattle.growing_graph.proofs.Listing.{lists_more}
use Rattle.growing_graph.proofs.index.Index.list_next.Goals as goal

pub returns-clause-own : goal.returns-clause-own
returns-clause-own c =
    lists_more c.args.part c.args.triples.now c.args.self.now.listed c.index-triples-place.result c.part_of.result.now c.args.self.now.table c.list_place.new.table c.requires.own c.requires.more
    (c.part_of.ensures ∙ ap (part_of c.args.part) c.index-triples-place.is) c.in_ok-list_place.ensures.ok

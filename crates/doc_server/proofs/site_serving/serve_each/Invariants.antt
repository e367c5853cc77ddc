use Rattle.doc_server.specs.Serving.{ServesSoMany}
use Rattle.doc_server.proofs.site_serving.serve_each.Given as goal

abbrev pub invariant-loop : goal.invariant-loop
invariant-loop g l = ServesSoMany l.site l.counter (g.P.Peers.peering l.initial.peers) (g.P.Peers.peering l.peers)

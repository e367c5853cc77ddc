use Rattle.doc_server.proofs.Turning.{served_none, served_more, ended_network, ended_memory}
use Rattle.doc_server.proofs.site_serving.serve_each.Goals as goal

pub loop-init : goal.loop-init
loop-init g c = served_none c.args.site.now (g.P.Peers.peering c.args.peers.now)

pub returns-in-Failed : goal.returns-in-Failed
returns-in-Failed g c =
    ended_network c.args.site.now c.args.count c.loop.counter (g.P.Peers.peering c.args.peers.now) (g.P.Peers.peering c.loop.peers) (g.P.Peers.peering c.serve_next.new.peers)
    c.loop-test.true c.loop.invariant c.in-Failed.ensures

pub returns-in-Memory : goal.returns-in-Memory
returns-in-Memory g c =
    let w = c.in-Memory.ensures in
    ended_memory c.args.site.now c.args.count c.loop.counter w.0 (g.P.Peers.peering c.args.peers.now) (g.P.Peers.peering c.loop.peers) (g.P.Peers.peering c.serve_next.new.peers)
    c.loop-test.true w.1 c.loop.invariant w.2

pub loop-preserved : goal.loop-preserved
loop-preserved g c =
    served_more c.args.site.now c.loop.counter (g.P.Peers.peering c.args.peers.now) (g.P.Peers.peering c.loop.peers) (g.P.Peers.peering c.serve_next.new.peers)
    c.loop.invariant c.in-Served.ensures

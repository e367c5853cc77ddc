use Rattle.doc_server.specs.Serving.{Feed}
use Rattle.doc_server.proofs.Turning.{ends_from, reads_some}
use Rattle.doc_server.proofs.site_serving.serve_input.Goals as goal

pub returns-in-Ok : goal.returns-in-Ok
returns-in-Ok g c =
    let old : Feed = record {
      left = g.I.Source.left c.args.input.now;
      faults = g.I.Source.faults c.args.input.now;
      ends = g.I.Source.ends c.args.input.now;
    } in
    let new : Feed = record {
      left = g.I.Source.left c.read_all.new.source;
      faults = g.I.Source.faults c.read_all.new.source;
      ends = g.I.Source.ends c.read_all.new.source;
    } in
    ends_from c.args.count old new c.as_slice.result.now (g.P.Peers.peering c.args.peers.now) (g.P.Peers.peering c.serve_bytes.new.peers) c.serve_bytes.result
    (reads_some old new c.as_slice.result.now c.in-Ok.bytes c.as_slice.ensures c.in-Ok.ensures.bytes c.in-Ok.ensures.most c.in-Ok.ensures.at_end c.in-Ok.ensures.ended)
    c.serve_bytes.ensures

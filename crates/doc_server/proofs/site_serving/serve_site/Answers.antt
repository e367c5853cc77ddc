use Rattle.std.proofs.Common.{map}
use Rattle.std.specs.String.{string_bytes}
use Rattle.doc_server.specs.Serving.{Feed}
use Rattle.doc_server.specs.Words.{count_of}
use Rattle.doc_server.proofs.Turning.{usage_code}
use Rattle.doc_server.proofs.site_serving.serve_site.Goals as goal

pub returns-clause-usage : goal.returns-clause-usage
returns-clause-usage g c =
    let old : Feed = record {
      left = g.I.Source.left c.args.input.now;
      faults = g.I.Source.faults c.args.input.now;
      ends = g.I.Source.ends c.args.input.now;
    } in
    let new : Feed = record {
      left = g.I.Source.left c.serve_words.new.input;
      faults = g.I.Source.faults c.serve_words.new.input;
      ends = g.I.Source.ends c.serve_words.new.input;
    } in
    usage_code c.code.result (count_of (map string_bytes c.args.words.now)) old new (g.P.Peers.peering c.args.peers.now) c.serve_words.result (g.P.Peers.peering c.serve_words.new.peers)
    c.code.ensures c.serve_words.ensures.ends

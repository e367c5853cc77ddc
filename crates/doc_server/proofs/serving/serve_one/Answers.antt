use Rattle.doc_server.specs.Writing.{Connection}
use Rattle.doc_server.proofs.Held.{served_one}
use Rattle.doc_server.proofs.serving.serve_one.Goals as goal

pub returns-in-Ok-clause-served : goal.returns-in-Ok-clause-served
returns-in-Ok-clause-served g c =
    let old : Connection = record {
      left = g.C.Source.left c.args.conn.now;
      content = g.C.Sink.content c.args.conn.now;
      read_faults = g.C.Source.faults c.args.conn.now;
      write_faults = g.C.Sink.faults c.args.conn.now;
    } in
    let mid : Connection = record {
      left = g.C.Source.left c.read_request.new.source;
      content = g.C.Sink.content c.read_request.new.source;
      read_faults = g.C.Source.faults c.read_request.new.source;
      write_faults = g.C.Sink.faults c.read_request.new.source;
    } in
    let new : Connection = record {
      left = g.C.Source.left c.answer_request.new.sink;
      content = g.C.Sink.content c.answer_request.new.sink;
      read_faults = g.C.Source.faults c.answer_request.new.sink;
      write_faults = g.C.Sink.faults c.answer_request.new.sink;
    } in
    served_one c.args.site.now c.as_slice.result.now c.in-Ok.request old mid new c.answer_request.result _ _ _ _
    c.as_slice.ensures c.in-Ok.ensures.bytes c.in-Ok.ensures.most c.in-Ok.ensures.enough c.in-Ok.ensures.calm
    (g.met.C.Stream.read_apart c.args.conn.now) (g.met.C.Stream.read_apart c.read_request.new.source) c.in-Ok.ensures.apart
    c.answer_request.ensures.written c.answer_request.ensures.counts
    (g.met.C.Stream.write_apart c.read_request.new.source) (g.met.C.Stream.write_apart c.answer_request.new.sink) c.answer_request.ensures.apart

use Rattle.std.proofs.Common.{arith}
use Rattle.std.proofs.lemmas.List.{length-take}
use Rattle.doc_server.proofs.Held.{read_more}
use Rattle.doc_server.proofs.request.read_request.Goals as goal

pub returns-then-is_err-clause-read : goal.returns-then-is_err-clause-read
returns-then-is_err-clause-read g c =
    read_more _ _ _ _ _ _ c.loop-buf.invariant.taken c.in-Took.ensures.reads.2 c.in-Took.ensures.reads.1
    (omega (arith, c.read.auto.buf, length-take c.min-room.result c.loop-buf.buf, c.min-room.ensures, c.len-in-loop-buf.ensures, c.loop-buf-test.true))

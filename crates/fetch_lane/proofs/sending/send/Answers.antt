use Rattle.std.proofs.Common.{length, arith, ap, length-drop}
use Rattle.fetch_lane.proofs.LaneLemmas.{rest_is, sent_lane, sent_moved}
use Rattle.fetch_lane.proofs.sending.send.Goals as goal

pub overflow_add-at : goal.overflow_add-at
overflow_add-at g c =
    let sends = c.in-Took.ensures.sends _ c.requires.sending.is_open in
    let piece = rest_is c.as_slice.result.now c.args.lane.now.request c.args.at c.as_slice.ensures in
    omega (arith, sends.1, ap length piece, length-drop c.args.at c.args.lane.now.request, c.len-len.ensures, c.requires.sending.more)

pub returns-in-Took-clause-moved : goal.returns-in-Took-clause-moved
returns-in-Took-clause-moved g c =
    sent_moved (g.W.Wire.conns c.args.wire.now) (g.W.Wire.conns c.send.new.self) c.args.lane.now c.args.conn c.args.at c.in-Took.count c.stage_after-lane.result _
    (cc) c.requires.sending.more c.requires.sending.is_open (c.in-Took.ensures.sends _ c.requires.sending.is_open) c.stage_after-lane.ensures.conn

pub returns-in-Took-clause-lane : goal.returns-in-Took-clause-lane
returns-in-Took-clause-lane g c =
    sent_lane (g.W.Wire.hosts c.send.new.self) (g.W.Wire.conns c.send.new.self) c.args.lane.now c.args.conn c.args.at c.in-Took.count c.stage_after-lane.result _
    c.requires.sending.reading (rest_is c.as_slice.result.now c.args.lane.now.request c.args.at c.as_slice.ensures) (c.in-Took.ensures.sends _ c.requires.sending.is_open) c.stage_after-lane.ensures.conn
    (λ h. c.stage_after-lane.ensures.more (omega (arith, h, c.len-len.ensures))) (λ h. c.stage_after-lane.ensures.all (omega (arith, h, c.len-len.ensures)))

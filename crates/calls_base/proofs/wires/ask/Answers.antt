use Rattle.std.proofs.Common.{rules}
use Rattle.outer_ports.proofs.WireLemmas.{sent_open}
use Rattle.calls_base.proofs.wires.ask.Goals as goal

pub recv-requires-clause-is_open : goal.recv-requires-clause-is_open
recv-requires-clause-is_open g c =
    sent_open (g.W.Wire.conns c.open.new.self c.in-Ok-Conn.conn) c.args.request.now c.send.result _ (search rules) c.send.ensures.sends

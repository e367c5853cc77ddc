use Rattle.std.proofs.Common.{arith, ap, length, length-drop}
use Rattle.outer_ports.proofs.KnownBytesLemmas.{append_known-take}
use Rattle.outer_ports.proofs.writing.write_all.Goals as goal

pub loop-at-preserved : goal.loop-at-preserved
loop-at-preserved g c = record {
  within = omega (arith, ap length c.tail.ensures, length-drop c.loop-at.at c.args.text.now, c.in-Took.ensures.writes.1);
  grown = append_known-take _ _ _ _ _ _ _ c.tail.ensures c.loop-at.invariant.grown c.in-Took.ensures.writes.2;
  apart = cc (c.in-Took.ensures.apart);
  calm = cc (c.in-Took.ensures.counts);
}

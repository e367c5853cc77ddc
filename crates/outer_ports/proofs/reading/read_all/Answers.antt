use Rattle.outer_ports.proofs.KnownBytesLemmas.{prepend_known-more}
use Rattle.outer_ports.proofs.reading.read_all.Goals as goal

pub returns-then-is_err-clause-read : goal.returns-then-is_err-clause-read
returns-then-is_err-clause-read g c =
    (_, prepend_known-more _ _ _ _ _ c.loop-buf.invariant.taken c.in-Took.ensures.reads.2)

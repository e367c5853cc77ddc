use Rattle.std.proofs.Common.{◌≡◌}
use Rattle.web_port.specs.Port.{Waits}
use Rattle.web_port.proofs.polling.next_landed.Given as goal

abbrev pub invariant-loop-number : goal.invariant-loop-number
invariant-loop-number g l = record {
  waits : Waits (g.F.Fetcher.fetch l.fn.fetcher) (g.F.Fetcher.port l.fn.fetcher) (g.F.Fetcher.port l.fetcher);
  fetch : g.F.Fetcher.fetch l.fetcher ≡ g.F.Fetcher.fetch l.fn.fetcher;
  lanes : g.F.Fetcher.lanes l.fetcher ≡ g.F.Fetcher.lanes l.fn.fetcher;
}

abbrev pub decreases-loop-number : goal.decreases-loop-number
decreases-loop-number g l = (g.F.Fetcher.port l.fetcher).left

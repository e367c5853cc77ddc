use Rattle.std.proofs.Common.{◌≡◌}
use Rattle.traverse_core.specs.Alone.{InStep, RunsOn, turns_left}
use Rattle.traverse_core.specs.Totals.{Paid, tallies}
use Rattle.traverse_core.proofs.alone.take_turns.Given as goal

abbrev pub invariant-loop-run : goal.invariant-loop-run
invariant-loop-run g l = record {
  step : InStep g.J.Job.run (g.F.Fetcher.fetch l.fetcher) (g.F.Fetcher.lanes l.fetcher) l.run (g.F.Fetcher.port l.fetcher);
  on : RunsOn l.fn.run l.run;
  fetch : g.F.Fetcher.fetch l.fetcher ≡ g.F.Fetcher.fetch l.fn.fetcher;
  lanes : g.F.Fetcher.lanes l.fetcher ≡ g.F.Fetcher.lanes l.fn.fetcher;
  paid : Paid (g.F.Fetcher.port l.fn.fetcher) (tallies l.fn.run.entries) (g.F.Fetcher.port l.fetcher) (tallies l.run.entries);
}

abbrev pub decreases-loop-run : goal.decreases-loop-run
decreases-loop-run g l = turns_left g.J.Job.run l.run

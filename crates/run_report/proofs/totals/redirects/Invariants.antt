use Rattle.std.proofs.Common.{◌≡◌, take}
use Rattle.run_report.specs.Report.{redirects}
use Rattle.run_report.proofs.totals.redirects.Given as goal

abbrev pub invariant-loop-entry : goal.invariant-loop-entry
invariant-loop-entry l = l.count ≡ redirects (take l.entry-index l.entries)

use Rattle.std.proofs.Common.{◌≡◌, [], take}
use Rattle.run_report.specs.Report.{failures}
use Rattle.run_report.proofs.failures.has_failed.Given as goal

abbrev pub invariant-loop-entry : goal.invariant-loop-entry
invariant-loop-entry l = failures (take l.entry-index l.entries) ≡ []

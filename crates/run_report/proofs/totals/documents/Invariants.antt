use Rattle.std.proofs.Common.{◌≡◌, take}
use Rattle.run_report.specs.Report.{documents}
use Rattle.run_report.proofs.totals.documents.Given as goal

abbrev pub invariant-loop-entry : goal.invariant-loop-entry
invariant-loop-entry l = l.count ≡ documents (take l.entry-index l.entries)

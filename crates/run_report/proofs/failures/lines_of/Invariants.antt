use Rattle.std.proofs.Common.{◌≡◌, take}
use Rattle.std.specs.List.{flat_map}
use Rattle.run_report.specs.Report.{failure_line}
use Rattle.run_report.proofs.failures.lines_of.Given as goal

abbrev pub invariant-loop-failure : goal.invariant-loop-failure
invariant-loop-failure l = l.text ≡ flat_map failure_line (take l.failure-index l.failures)

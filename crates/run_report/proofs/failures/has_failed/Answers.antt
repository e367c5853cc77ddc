use Rattle.std.proofs.Common.{refl}
use Rattle.run_report.proofs.Failing.{some_failure}
use Rattle.run_report.proofs.failures.has_failed.Goals as goal

pub returns-then-is_failure : goal.returns-then-is_failure
returns-then-is_failure c =
    let failed = c.is_failure.ensures.0 c.if-is_failure.true in
    ((λ t. some_failure c.args.entries.now c.loop-entry.entry-index c.entry-item.result c.loop-entry-test.true c.entry-item.is failed), (λ some. refl))

use Rattle.answer_core.specs.declared.status.Status.TheVariants.{Memory}
use Rattle.answer_core.proofs.Reports.{reported_memory, counted, after_memory}
use Rattle.answer_core.specs.Running.{Is}
use Rattle.answer_core.proofs.report.write_report.Goals as goal

pub returns-in-Memory-clause-after : goal.returns-in-Memory-clause-after
returns-in-Memory-clause-after g c = after_memory _ _ _ _ _ _ _ c.write_text.ensures

pub returns-in-Memory-clause-reported : goal.returns-in-Memory-clause-reported
returns-in-Memory-clause-reported g c = reported_memory (Is c.args.status) _ _ _ _ _ _ c.write_text.ensures

pub returns-in-Memory-clause-faults : goal.returns-in-Memory-clause-faults
returns-in-Memory-clause-faults g c = counted Memory _ _ _ _ _ _ (λ e. absurd (cc)) c.write_text.ensures

use Rattle.std.proofs.Common.{sym, subst}
use Rattle.answer_core.specs.Reported.{IsTextOf}
use Rattle.answer_core.specs.declared.status.Status.TheVariants.{Memory}
use Rattle.answer_core.proofs.Reports.{reported, reported_memory, counted, after, after_memory}
use Rattle.answer_core.specs.Running.{Is}
use Rattle.answer_core.proofs.report.write_status.Goals as goal

pub returns-in-Ok-clause-after : goal.returns-in-Ok-clause-after
returns-in-Ok-clause-after g c = after _ _ _ _ _ _ _ c.write_text.ensures

pub returns-in-Ok-clause-reported : goal.returns-in-Ok-clause-reported
returns-in-Ok-clause-reported g c = reported _ _ _ _ _ _ _ _ c.requires.other c.requires.unreported c.requires.matches (subst (λ t. IsTextOf c.args.status c.args.trace.now t) (sym c.as_slice.ensures) c.in-Ok.ensures) c.write_text.ensures

pub returns-in-Ok-clause-faults : goal.returns-in-Ok-clause-faults
returns-in-Ok-clause-faults g c = counted _ _ _ _ _ _ _ c.requires.unreported c.write_text.ensures

pub returns-in-Err-clause-after : goal.returns-in-Err-clause-after
returns-in-Err-clause-after g c = after_memory _ _ _ _ _ _ _ c.write_text-in-Err.ensures

pub returns-in-Err-clause-reported : goal.returns-in-Err-clause-reported
returns-in-Err-clause-reported g c = reported_memory (Is c.args.status) _ _ _ _ _ _ c.write_text-in-Err.ensures

pub returns-in-Err-clause-faults : goal.returns-in-Err-clause-faults
returns-in-Err-clause-faults g c = counted Memory _ _ _ _ _ _ (λ e. absurd (cc)) c.write_text-in-Err.ensures

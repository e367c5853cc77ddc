-- From the evidence of the status before the report to what the top call promises.
use Rattle.std.proofs.Common.{ℕ, Option, sym, subst}
use Rattle.outer_ports.specs.Causes.{Rose}
use Rattle.reachability.specs.declared.record.Record.{Record}
use Rattle.answer_core.specs.Task.{Asked, Asks}
use Rattle.answer_core.specs.Headline.{class_of, CountsFaults, Shows, HasRead, StatusEvidence, Reported, Promised}
use Rattle.answer_core.specs.Running.{BeforeReport, Is, StatusAfterReport, report_fails}
use Rattle.answer_core.specs.declared.status.Status.{Status}
use Rattle.answer_core.proofs.Complete.{complete, refused, unreadable}
use Rattle.answer_core.proofs.Evidence.{evidence_as}
use Rattle.answer_core.proofs.Reports.{reported_as}
use Rattle.answer_core.proofs.Turning.{evidence_after}

pub promised : {I S R : Type 0} (i : Shows I) (ends : I → ℕ) (o : Shows S) (p : Shows R) (asked : Asked) (s now : Status) (t : Option Record) (input input_new : I) (out new : S) (report report_new : R)
    → StatusEvidence o (Asks asked) (BeforeReport (HasRead i ends asked input input_new)) t out new s → StatusAfterReport s now
    → Reported (class_of now) (Is s) now t (p.bytes report) (p.bytes report_new) (Rose (p.faults report) (p.faults report_new)) → CountsFaults (report_fails (class_of now)) (p.faults report) (p.faults report_new)
    → Promised i ends o p asked now t input input_new out new report report_new
promised i ends o p asked s now t input input_new out new report report_new x turned reported counts =
    let shown : StatusEvidence o (Asks asked) (HasRead i ends asked input input_new) t out new s = evidence_as o (Asks asked) (Asks asked) (BeforeReport (HasRead i ends asked input input_new)) (HasRead i ends asked input input_new) t out new s (λ c is. is) (λ m r. r.1) x in
    let after : StatusEvidence o (Asks asked) (HasRead i ends asked input input_new) t out new now = evidence_after i ends o asked input input_new t out new s now turned shown in
    record {
      evidence = after;
      report = reported_as (class_of now) (Is s) (StatusEvidence o (Asks asked) (HasRead i ends asked input input_new) t out new) now t (p.bytes report) (p.bytes report_new) (Rose (p.faults report) (p.faults report_new))
          (λ z e. subst (StatusEvidence o (Asks asked) (HasRead i ends asked input input_new) t out new) (sym e) shown) reported;
      report_faults = counts;
      complete = λ c is readable no_write no_report. complete i ends asked c now t input input_new (o.faults out) (o.faults new) (p.faults report) (p.faults report_new) is after.read after.output_faults counts readable no_write no_report;
      refused = λ at why bad readable. refused i ends asked now t input input_new at why bad after.recorded after.read readable;
      unreadable = λ none. unreadable i ends asked now t input input_new after.recorded after.read none;
    }

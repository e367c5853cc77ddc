-- The text of a report by itself, for a status and the record of its run (docs/FORMATS.md, "Report").
use Rattle.std.specs.Prelude.{ℕ, ◌≡◌, List, Option, Some, None}
use Rattle.reachability.specs.declared.record.Record.{Record}
use Rattle.run_report.specs.Report.{IsReport}
use Rattle.answer_core.specs.Codes.{code_of, ended_status}
use Rattle.answer_core.specs.Headline.{Holds, class_of, row}
use Rattle.answer_core.specs.Reported.{IsLineOf, memory_line}
use Rattle.answer_core.specs.declared.status.Status.{Status}
use Rattle.answer_core.specs.declared.status.Status.TheVariants.{Memory, Report}

-- a record is given where the run of the status has one
abbrev pub IsGiven : Status → Option Record → Type 0
IsGiven status (Some r) = Holds ((row (class_of status)).has_record) (Unit {0})
IsGiven status None = Holds ((row (class_of status)).has_record) ⊥

-- the code in the text: with a report that failed that of the run's end
abbrev pub told_code : Status → Record → ℕ
told_code Report r = code_of (ended_status r)
told_code status r = code_of status

-- the text of the status; that of want of memory is one line, be there a record or not
abbrev pub IsReportText : Status → Option Record → List ℕ → Type 0
IsReportText Memory trace text = text ≡ memory_line
IsReportText status (Some r) text = IsReport (told_code status r) r text
IsReportText status None text = IsLineOf status text

-- The exit codes, and which of them a run that came to its end has (docs/FORMATS.md, "Exit codes").
use Rattle.std.specs.Prelude.{ℕ, List, [], ◌∷◌}
use Rattle.reachability.specs.declared.record.Record.{Record}
use Rattle.run_report.specs.Report.{failures}
use Rattle.answer_core.specs.declared.status.Status.{Status}
use Rattle.answer_core.specs.declared.status.Status.TheVariants.{Ok, Usage, Partial, Limit, Query, Site, Input, Output, Memory, Report, NotBuilt}

abbrev pub code_of : Status → ℕ
code_of Ok = 0
code_of Usage = 2
code_of Partial = 3
code_of Limit = 4
code_of (Query at why) = 5
code_of (Site at) = 6
code_of Input = 7
code_of Output = 8
code_of Memory = 10
code_of Report = 11
code_of NotBuilt = 12

-- by what failed
abbrev pub failed_status : {X : Type 0} → List X → Status
failed_status [] = Ok
failed_status (f ∷ fs) = Partial

-- by what is queued, then by what failed
abbrev pub status_by : {X : Type 0} → List (List ℕ) → List X → Status
status_by [] failed = failed_status failed
status_by (link ∷ links) failed = Limit

-- how a run that came to its end ended, but for its report: Limit where a link is queued, else Partial where a link failed, else Ok
abbrev pub ended_status : Record → Status
ended_status r = status_by r.queued (failures r.entries)

-- What the parts of the top call tell each other: a run before its report, and how the report turns its status.
use Rattle.std.specs.Prelude.{ℕ, ◌≡◌, ◌⊎◌, ◌≢◌, ◌≤◌, List, Option, None, IfSome, length}
use Rattle.std.specs.Io.KnownBytes.{append_known}
use Rattle.outer_ports.specs.Causes.{RoseOnce}
use Rattle.reachability.specs.declared.record.Record.{Record}
use Rattle.site_core.specs.Text.{Entry, site_limit}
use Rattle.reachability.specs.Web.{heard_at}
use Rattle.web_port.specs.SiteWeb.{site_fetch, web_of_site}
use Rattle.traverse_core.specs.declared.alone.Ran.{Ran}
use Rattle.traverse_core.specs.declared.alone.Ran.TheVariants as ran
use Rattle.traverse_core.specs.Run.{Run}
use Rattle.sparql_parser.specs.Answer.{most_bytes}
use Rattle.sparql_parser.specs.declared.fault.QueryFault.{QueryFault}
use Rattle.sparql_parser.specs.declared.fault.QueryFault.TheVariants as faults
use Rattle.answer_core.specs.Codes.{ended_status}
use Rattle.answer_core.specs.declared.task.Task.{Task}
use Rattle.answer_core.specs.Headline.{Class, Duty, row, Ended, Halted, Refused, NoMemory, Unreported, class_of, Shows, IsOfWeb, NoneUnreached, InputRead}
use Rattle.answer_core.specs.Reported.{GrewByPrefix}
use Rattle.command_words.specs.declared.command.Settings.{Settings}
use Rattle.answer_core.specs.declared.status.QueryWhy.TheVariants as why
use Rattle.answer_core.specs.declared.status.Status.{Status}
use Rattle.answer_core.specs.declared.status.Status.TheVariants.{Query, Output, Memory, Report, Input}

-- columns of the table of classes
abbrev pub has_record : Class → Duty
has_record k = (row k).has_record

abbrev pub is_whole : Class → Duty
is_whole k = (row k).is_whole

abbrev pub report_fails : Class → Duty
report_fails k = (row k).report_fails

-- the task that a run is of
abbrev pub task_of : Run → Task
task_of run = record { query = run.query; seeds = run.seeds; criterion = run.criterion; limit = run.limit; body = run.body; tries = run.fetch.tries }

-- the run's look-ups are those in a site
abbrev pub IsOverSite : Run → List Entry → Type 0
IsOverSite run site = run.fetch ≡ site_fetch site run.fetch.tries

-- the status of a run by how it ended
abbrev pub ran_status : Ran → Record → Status
ran_status ran.Done r = ended_status r
ran_status ran.Output r = Output
ran_status ran.Memory r = Memory

-- ---- an output, by what it shows alone

pub record Writing : Type 0 where
  pub bytes : Option (List ℕ)
  pub faults : ℕ

abbrev pub writing : Shows Writing
writing = record { bytes = λ w. w.bytes; faults = λ w. w.faults }

-- ---- what is known of a status before the report, by how much was read

abbrev pub BeforeReport : (Status → Option Record → Type 0) → Status → Option Record → Type 0
BeforeReport read status trace = (class_of status ≢ Unreported) × read status trace

-- the record is of a run of the task over the site
abbrev pub IsOfSite : Task → List Entry → Record → Type 0
IsOfSite t site r = IsOfWeb t (heard_at (web_of_site site)) r × NoneUnreached r

-- there is a record, and it is of the site whose look-ups they are
abbrev pub RunRead : Run → Status → Option Record → Type 0
RunRead run status trace = (trace ≢ None) × ((site : List Entry) → IsOverSite run site → IfSome trace (IsOfSite (task_of run) site))

-- there is a record, or memory ran out
abbrev pub TaskRead : Task → List Entry → Status → Option Record → Type 0
TaskRead t site status trace = (trace ≡ None → status ≡ Memory) × IfSome trace (IsOfSite t site)

-- the bytes were read whole, and they are a site's, or they are none
abbrev pub BytesRead : Settings → List ℕ → Status → Option Record → Type 0
BytesRead s bytes status trace = (status ≢ Input) × InputRead s status trace bytes (length bytes ≤ site_limit)

-- ---- the report

-- the status in whose place a fault of the report stands, and otherwise the same
abbrev pub failed_by : Class → Status → Status
failed_by Ended status = Report
failed_by Halted status = status
failed_by Refused status = status
failed_by NoMemory status = status
failed_by Unreported status = status

abbrev pub failed_report : Status → Status
failed_report status = failed_by (class_of status) status

-- the report was given the text whole, or a prefix of it where it failed or wanted memory; and the status then
abbrev pub WroteReport : Status → Status → List ℕ → Option (List ℕ) → Option (List ℕ) → ℕ → ℕ → Type 0
WroteReport status now text old new before after =
    ((now ≡ status) × (after ≡ before) × (new ≡ append_known old text))
    ⊎ (((now ≡ failed_report status) × (RoseOnce before after × (before ≤ after)) × GrewByPrefix old new text) ⊎ ((now ≡ Memory) × (after ≡ before) × GrewByPrefix old new text))

-- the status of a query's fault
abbrev pub fault_status : QueryFault → Status
fault_status (faults.Syntax at) = Query at why.Syntax
fault_status (faults.Unsupported at) = Query at why.Unsupported
fault_status (faults.Deep at) = Query at why.Deep
fault_status faults.LongQuery = Query most_bytes why.Long
fault_status faults.Memory = Memory

-- the status is that one
abbrev pub Is : Status → Status → Type 0
Is status s = s ≡ status

-- the status after the report: the same, or a fault of the report in its place, or want of memory
abbrev pub StatusAfterReport : Status → Status → Type 0
StatusAfterReport status now = (now ≡ status) ⊎ (((class_of status ≡ Ended) × (now ≡ Report)) ⊎ (now ≡ Memory))

-- The report of a run: a line for each link that failed, and one of totals
-- (docs/FORMATS.md, "Report").
use Rattle.std.specs.Prelude.{◌≡◌, ◌+◌, ℕ, List, [], ◌∷◌, ◌++◌, length, decimal, codes, Bool, true, false, Option, Some, None}
use Rattle.std.specs.List.{flat_map, count_by}
use Rattle.std.specs.List.Sorted.{IsPermutation, IsSorted, IsStable}
use Rattle.std.specs.declared.cmp.Ordering.{Ordering}
use Rattle.std.specs.Ordering.{on}
use Rattle.rdf_terms.specs.Order.{text_cmp}
use Rattle.reachability.specs.declared.outcome.Outcome.TheVariants.{Document, Moved, Refused}
use Rattle.reachability.specs.declared.outcome.Why.{Why}
use Rattle.reachability.specs.declared.outcome.Why.TheVariants as why
use Rattle.reachability.specs.declared.record.Cause.{Cause}
use Rattle.reachability.specs.declared.record.Cause.TheVariants as cause
use Rattle.reachability.specs.declared.record.Found.{Found}
use Rattle.reachability.specs.declared.record.Found.TheVariants.{Outcome as Told, Unreachable}
use Rattle.reachability.specs.declared.record.Entry.{Entry}
use Rattle.reachability.specs.declared.record.Record.{Record}
use Rattle.run_report.specs.declared.failures.Failure.{Failure}

-- a word and a number
unfoldable pub numbered : List ℕ → ℕ → List ℕ
numbered word n = word ++ decimal n

-- ---- the causes

-- why an answer was refused
abbrev pub why_text : Why → List ℕ
why_text (why.Status status) = numbered (codes "status ") status
why_text why.Media = codes "type"
why_text why.Coding = codes "coding"
why_text why.Length = codes "length"
why_text why.Head = codes "head"
why_text why.Location = codes "location"
why_text why.Scheme = codes "scheme"
why_text (why.Syntax at) = numbered (codes "syntax ") at
why_text (why.Deep at) = numbered (codes "deep ") at

-- how the last try to reach a link failed
abbrev pub cause_text : Cause → List ℕ
cause_text cause.Connect = codes "connect"
cause_text cause.Broken = codes "broken"
cause_text cause.Cut = codes "cut"
cause_text cause.Silent = codes "silent"

-- an unreachable link: how the last try failed, and how many there were
abbrev pub unreachable_text : Cause → ℕ → List ℕ
unreachable_text cause tries = codes "unreachable " ++ (cause_text cause ++ numbered (codes " ") tries)

-- the cause of a failure; none where a document or a redirect was found
abbrev pub failure_text : Found → Option (List ℕ)
failure_text (Told (Document triples)) = None
failure_text (Told (Moved link)) = None
failure_text (Told (Refused why)) = Some (why_text why)
failure_text (Unreachable cause tries) = Some (unreachable_text cause tries)

-- ---- the lines

-- the failure of a link, where it has a cause
abbrev pub failure_with : List ℕ → Option (List ℕ) → List Failure
failure_with link None = []
failure_with link (Some cause) = record { link = link; cause = cause } ∷ []

abbrev pub failure_of : Entry → List Failure
failure_of e = failure_with e.link (failure_text e.found)

-- the failures, in the order of the record
abbrev pub failures : List Entry → List Failure
failures entries = flat_map failure_of entries

-- the link of a failure
abbrev pub failed_link : Failure → List ℕ
failed_link f = f.link

-- failures by the bytes of their links' texts
abbrev pub failure_cmp : Failure → Failure → Ordering
failure_cmp = on failed_link text_cmp

-- the line of a failure
abbrev pub failure_line : Failure → List ℕ
failure_line f = codes "failed " ++ (f.link ++ (codes " " ++ (f.cause ++ codes "\n")))

-- ---- the totals

abbrev pub is_document : Found → Bool
is_document (Told (Document triples)) = true
is_document (Told (Moved link)) = false
is_document (Told (Refused why)) = false
is_document (Unreachable cause tries) = false

abbrev pub is_moved : Found → Bool
is_moved (Told (Document triples)) = false
is_moved (Told (Moved link)) = true
is_moved (Told (Refused why)) = false
is_moved (Unreachable cause tries) = false

-- how many documents, and how many redirects, were found
abbrev pub documents : List Entry → ℕ
documents entries = count_by (λ e. is_document e.found) entries

abbrev pub redirects : List Entry → ℕ
redirects entries = count_by (λ e. is_moved e.found) entries

-- the last line: the code, how many links were looked up, what they were, and how many are queued
abbrev pub totals_line : ℕ → Record → List ℕ
totals_line code r =
    numbered (codes "status ") code ++ (numbered (codes " settled ") (length r.entries) ++ (numbered (codes " documents ") (documents r.entries) ++ (numbered (codes " moved ") (redirects r.entries)
    ++ (numbered (codes " failed ") (length (failures r.entries)) ++ (numbered (codes " queued ") (length r.queued) ++ codes "\n")))))

-- ---- the text

-- the list is the failures by ascending link text, those of equal texts in the order of the record
pub record AreRanked (entries : List Entry) (ranked : List Failure) : Type 0 where
  pub same : IsPermutation (failures entries) ranked
  pub sorted : IsSorted failure_cmp ranked
  pub stable : IsStable failure_cmp (failures entries) ranked

-- the text is the report of a record under a code
pub record IsReport (code : ℕ) (r : Record) (text : List ℕ) : Type 0 where
  pub ranked : List Failure
  pub by_link : AreRanked r.entries ranked
  pub is : text ≡ flat_map failure_line ranked ++ totals_line code r

-- What the report receives (docs/FORMATS.md, "Report").
use Rattle.std.specs.Prelude.{ℕ, ◌≡◌, ◌≤◌, List, ◌++◌, Option, Some, None, length, take, codes, decimal}
use Rattle.std.specs.Io.KnownBytes.{append_known}
use Rattle.reachability.specs.declared.record.Record.{Record}
use Rattle.run_report.specs.Report.{IsReport}
use Rattle.answer_core.specs.Codes.{code_of}
use Rattle.answer_core.specs.declared.status.QueryWhy.{QueryWhy}
use Rattle.answer_core.specs.declared.status.QueryWhy.TheVariants as why
use Rattle.answer_core.specs.declared.status.Status.{Status}
use Rattle.answer_core.specs.declared.status.Status.TheVariants.{Ok, Usage, Partial, Limit, Query, Site, Input, Output, Memory, Report, NotBuilt}

-- the line for want of memory
abbrev pub memory_line : List ℕ
memory_line = codes "status 10 memory\n"

-- the lines for words that are no command
abbrev pub usage_lines : List ℕ
usage_lines = codes "status 2 usage\nltq site [OPTIONS] QUERY SEED...\nltq web [OPTIONS] QUERY SEED...\nltq self [OPTIONS] N\n"

-- the word for the reason of a refusal
abbrev pub why_word : QueryWhy → List ℕ
why_word why.Syntax = codes "syntax"
why_word why.Unsupported = codes "unsupported"
why_word why.Deep = codes "deep"
why_word why.Long = codes "long"

-- the line of a query that is refused: the place of its first fault, and the reason
abbrev pub query_line : ℕ → QueryWhy → List ℕ
query_line at reason = codes "status 5 query at " ++ (decimal at ++ (codes " " ++ (why_word reason ++ codes "\n")))

-- the line of an input that is no site: the place of its first fault
abbrev pub site_line : ℕ → List ℕ
site_line at = codes "status 6 site at " ++ (decimal at ++ codes "\n")

-- ---- the text of a status

-- without a record: one line, but for words that are no command
abbrev pub IsLineOf : Status → List ℕ → Type 0
IsLineOf Ok text = ⊥
IsLineOf Usage text = text ≡ usage_lines
IsLineOf Partial text = ⊥
IsLineOf Limit text = ⊥
IsLineOf (Query at reason) text = text ≡ query_line at reason
IsLineOf (Site at) text = text ≡ site_line at
IsLineOf Input text = text ≡ codes "status 7 input\n"
IsLineOf Output text = ⊥
IsLineOf Memory text = text ≡ memory_line
IsLineOf Report text = ⊥
IsLineOf NotBuilt text = text ≡ codes "status 12 not built\n"

-- with a record: its failures and totals, under the status's code
abbrev pub IsTextOf : Status → Option Record → List ℕ → Type 0
IsTextOf status (Some r) text = IsReport (code_of status) r text
IsTextOf status None text = IsLineOf status text

-- ---- what was written

-- what is known grew by a prefix of the text, which may be empty or the whole
abbrev pub GrewByPrefix : Option (List ℕ) → Option (List ℕ) → List ℕ → Type 0
GrewByPrefix old new text = (n : ℕ) × (n ≤ length text) × (new ≡ append_known old (take n text))

-- the whole text of the status was received
abbrev pub Received : Status → Option Record → Option (List ℕ) → Option (List ℕ) → Type 0
Received status trace old new = (text : List ℕ) × IsTextOf status trace text × (new ≡ append_known old text)

-- a prefix of it was
abbrev pub ReceivedPrefix : Status → Option Record → Option (List ℕ) → Option (List ℕ) → Type 0
ReceivedPrefix status trace old new = (text : List ℕ) × IsTextOf status trace text × GrewByPrefix old new text

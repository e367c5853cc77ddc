-- What the text of a query says (docs/FORMATS.md, "Queries").
use Rattle.std.specs.Prelude.{ℕ, ◌≡◌, List, Result, Err}
use Rattle.algebra_core.specs.declared.query.Query.{Query}
use Rattle.sparql_parser.specs.Answer.{IsAnswer, most_bytes}
use Rattle.sparql_parser.specs.declared.fault.QueryFault.{QueryFault}
use Rattle.sparql_parser.specs.declared.fault.QueryFault.TheVariants as faults
use Rattle.answer_core.specs.declared.status.QueryWhy.{QueryWhy}
use Rattle.answer_core.specs.declared.status.QueryWhy.TheVariants as why

-- what the text is: one of the query, or one with this first fault
abbrev pub HasQuery : List ℕ → Result Query QueryFault → Type 0
HasQuery text answer = IsAnswer text answer

-- it is refused: its first fault stands at that place, for that reason. One that is too long is refused where it becomes so
abbrev pub IsRefused : List ℕ → ℕ → QueryWhy → Type 0
IsRefused text at why.Syntax = HasQuery text (Err (faults.Syntax at))
IsRefused text at why.Unsupported = HasQuery text (Err (faults.Unsupported at))
IsRefused text at why.Deep = HasQuery text (Err (faults.Deep at))
IsRefused text at why.Long = (at ≡ most_bytes) × HasQuery text (Err faults.LongQuery)

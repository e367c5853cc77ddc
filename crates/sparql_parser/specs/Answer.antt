-- What a text is answered: its query, or its first fault (docs/FORMATS.md, "Queries").
use Rattle.std.specs.Prelude.{◌≡◌, ℕ, List, length, Bool, true, false, nat_lt, Option, Some, None, Result, Ok, Err}
use Rattle.grammar_model.specs.Parsers.{Reads, Done, Rejected}
use Rattle.algebra_core.specs.declared.algebra.Algebra.{Algebra}
use Rattle.algebra_core.specs.declared.query.Query.{Query}
use Rattle.algebra_translation.specs.Translation.{once, selected_by_star}
use Rattle.sparql_lexer.specs.declared.token.QueryToken.{QueryToken}
use Rattle.sparql_lexer.specs.Tokens.{QueryTokens}
use Rattle.sparql_resolve.specs.declared.fault.Fault.{Fault}
use Rattle.sparql_resolve.specs.declared.fault.Fault.TheVariants as resolved
use Rattle.sparql_resolve.specs.Resolving.{names_of, width_of, tokens_of, stop_of}
use Rattle.sparql_parser.specs.declared.fault.QueryFault.{QueryFault}
use Rattle.sparql_parser.specs.declared.fault.QueryFault.TheVariants as faults
use Rattle.sparql_parser.specs.Grammar.{E, QueryUnit, Request, body, sparql}

-- how many bytes a query may have
abbrev pub most_bytes : ℕ
most_bytes = 65536

-- ---- translation (SPARQL 1.1, section 18.2.4.4 for the variables)

-- the variables as they are written, a repeated one once; or for `*` those that stand in a triple pattern
abbrev pub selected : ℕ → Option (List ℕ) → Algebra → List ℕ
selected names (Some all) a = once all
selected names None a = selected_by_star names a

-- the query of a request, with the names of its variables, and their number with that of blank nodes
abbrev pub query : List (List ℕ) → ℕ → Request → Query
query names width r =
    record {
      names = names;
      width = width;
      select = selected (length names) r.select r.body;
      distinct = r.distinct;
      body = r.body;
      order = r.order;
    }

abbrev pub fault : Fault → QueryFault
fault (resolved.Syntax at) = faults.Syntax at
fault (resolved.Unsupported at) = faults.Unsupported at
fault (resolved.Deep at) = faults.Deep at

-- the query, or the fault, of what the grammar reads
abbrev pub answer_by : List (List ℕ) → ℕ → E QueryUnit → Result Query QueryFault
answer_by names width (Done r rest) = Ok (query names width r)
answer_by names width (Rejected f) = Err (fault f)

-- ---- of a text

-- the answer is that of the grammar, which reads these tokens of the text: where one does not fit before the first that nothing may take, the fault is there
abbrev pub IsRead : List ℕ → List QueryToken → Result Query QueryFault → Type 0
IsRead bytes ts a =
    (o : E QueryUnit) × Reads (sparql (stop_of bytes ts)) QueryUnit (body QueryUnit) (tokens_of bytes ts) o × (a ≡ answer_by (names_of bytes ts) (width_of bytes ts) o)

-- the answer to a text that is not too long
abbrev pub IsShortAnswer : List ℕ → Result Query QueryFault → Type 0
IsShortAnswer bytes a = (ts : List QueryToken) × QueryTokens bytes ts × IsRead bytes ts a

abbrev pub is_answer_by : Bool → List ℕ → Result Query QueryFault → Type 0
is_answer_by true bytes a = a ≡ Err faults.LongQuery
is_answer_by false bytes a = IsShortAnswer bytes a

-- the answer to the text; that it is too long comes before all else
abbrev pub IsAnswer : List ℕ → Result Query QueryFault → Type 0
IsAnswer bytes a = is_answer_by (nat_lt most_bytes (length bytes)) bytes a

-- ---- what the code gives

-- nothing is said where memory ran out
abbrev pub UnlessMemoryFault : (Result Query QueryFault → Type 0) → QueryFault → Type 0
UnlessMemoryFault P (faults.Syntax at) = P (Err (faults.Syntax at))
UnlessMemoryFault P (faults.Unsupported at) = P (Err (faults.Unsupported at))
UnlessMemoryFault P (faults.Deep at) = P (Err (faults.Deep at))
UnlessMemoryFault P faults.LongQuery = P (Err faults.LongQuery)
UnlessMemoryFault P faults.Memory = Unit {0}

-- the result is such an answer, unless memory ran out
abbrev pub UnlessMemory : (Result Query QueryFault → Type 0) → Result Query QueryFault → Type 0
UnlessMemory P (Ok q) = P (Ok q)
UnlessMemory P (Err e) = UnlessMemoryFault P e

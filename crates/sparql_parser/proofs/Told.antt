-- What the steps of a reading tell.
use Rattle.std.proofs.Common.{◌≡◌, ◌≤◌, ℕ, List, Bool, false, Ok, Err, length, sym, ap, subst, ◌∙◌, arith}
use Rattle.std.specs.Prelude.{nat_lt, IfOk}
use Rattle.algebra_core.specs.Query.{IsValid}
use Rattle.sparql_lexer.specs.declared.token.QueryToken.{QueryToken}
use Rattle.sparql_resolve.specs.declared.fault.Fault.{Fault}
use Rattle.sparql_resolve.specs.declared.kind.Token.{Token}
use Rattle.sparql_resolve.specs.declared.resolving.Resolved.{Resolved}
use Rattle.sparql_resolve.specs.Resolving.{IsResolved, names_of, width_of, tokens_of, stop_of}
use Rattle.sparql_parser.specs.declared.fault.QueryFault.{QueryFault}
use Rattle.sparql_parser.specs.declared.fault.QueryFault.TheVariants as faults
use Rattle.sparql_parser.specs.Grammar.{QueryUnit, reads}
use Rattle.sparql_parser.specs.Answer.{answer_by, IsRead, IsShortAnswer, is_answer_by, IsAnswer, most_bytes, UnlessMemoryFault, UnlessMemory}
use Rattle.sparql_parser.proofs.Unique.{A, read_answer}
use Rattle.sparql_parser.proofs.Valid.{valid_answer}

-- the answer of resolved tokens
abbrev pub resolve_answer : List (List ℕ) → ℕ → Fault → List Token → A
resolve_answer names width stop ts = answer_by names width (reads stop QueryUnit ts)

told_fault : (P Q : A → Type 0) → ((a : A) → P a → Q a) → (e : QueryFault) → UnlessMemoryFault P e → UnlessMemoryFault Q e
told_fault P Q f (faults.Syntax at) h = f (Err (faults.Syntax at)) h
told_fault P Q f (faults.Unsupported at) h = f (Err (faults.Unsupported at)) h
told_fault P Q f (faults.Deep at) h = f (Err (faults.Deep at)) h
told_fault P Q f faults.LongQuery h = f (Err faults.LongQuery) h
told_fault P Q f faults.Memory h = tt

told : (P Q : A → Type 0) → ((a : A) → P a → Q a) → (r : A) → UnlessMemory P r → UnlessMemory Q r
told P Q f (Ok q) h = f (Ok q) h
told P Q f (Err e) h = told_fault P Q f e h

same_answer : (bytes : List ℕ) (ts : List QueryToken) (s : Resolved) → IsResolved bytes ts s
    → resolve_answer s.names s.width s.stop s.tokens ≡ resolve_answer (names_of bytes ts) (width_of bytes ts) (stop_of bytes ts) (tokens_of bytes ts)
same_answer bytes ts s h =
    ap (λ (n : List (List ℕ)). resolve_answer n s.width s.stop s.tokens) h.names
    ∙ (ap (λ (w : ℕ). resolve_answer (names_of bytes ts) w s.stop s.tokens) h.width
    ∙ (ap (λ (x : Fault). resolve_answer (names_of bytes ts) (width_of bytes ts) x s.tokens) h.stop
    ∙ ap (λ (l : List Token). resolve_answer (names_of bytes ts) (width_of bytes ts) (stop_of bytes ts) l) h.tokens))

is_read : (bytes : List ℕ) (ts : List QueryToken) (s : Resolved) → IsResolved bytes ts s → (a : A) → a ≡ resolve_answer s.names s.width s.stop s.tokens → IsRead bytes ts a
is_read bytes ts s h a e = subst (λ (x : A). IsRead bytes ts x) (sym (e ∙ same_answer bytes ts s h)) (read_answer bytes ts)

-- what is told of resolved tokens is told of the text's tokens
pub read_told : (bytes : List ℕ) (ts : List QueryToken) (s : Resolved) (r : A) → IsResolved bytes ts s
    → UnlessMemory (λ a. a ≡ resolve_answer s.names s.width s.stop s.tokens) r → UnlessMemory (IsRead bytes ts) r
read_told bytes ts s r h t = told (λ a. a ≡ resolve_answer s.names s.width s.stop s.tokens) (IsRead bytes ts) (is_read bytes ts s h) r t

not_long : (bytes : List ℕ) → length bytes ≤ most_bytes → nat_lt most_bytes (length bytes) ≡ false
not_long bytes le = grind (arith, le)

answer_told : (bytes : List ℕ) (r : A) → length bytes ≤ most_bytes → UnlessMemory (IsShortAnswer bytes) r → UnlessMemory (IsAnswer bytes) r
answer_told bytes r le t = told (IsShortAnswer bytes) (IsAnswer bytes) (λ a h. subst (λ (b : Bool). is_answer_by b bytes a) (sym (not_long bytes le)) h) r t

-- a query that is told of a text that is not too long is valid
pub ok_valid : (bytes : List ℕ) (r : A) → length bytes ≤ most_bytes → UnlessMemory (IsShortAnswer bytes) r → IfOk r IsValid
ok_valid bytes (Ok q) le h = valid_answer bytes q (answer_told bytes (Ok q) le h)
ok_valid bytes (Err e) le h = tt

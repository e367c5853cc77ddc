-- A text has at most one query, and none where it is refused; it is refused at one place, for one reason.
use Rattle.std.proofs.Common.{ℕ, ◌≡◌, List, Result, Ok, Err, refl, sym, ap, ◌∙◌}
use Rattle.std.specs.Prelude.{is_ok}
use Rattle.std.proofs.lemmas.Bool.{false≢true}
use Rattle.algebra_core.specs.declared.query.Query.{Query}
use Rattle.sparql_parser.specs.declared.fault.QueryFault.{QueryFault}
use Rattle.sparql_parser.specs.declared.fault.QueryFault.TheVariants as faults
use Rattle.sparql_parser.specs.Answer.{IsAnswer, most_bytes}
use Rattle.sparql_parser.proofs.Unique.{only_answer}
use Rattle.answer_core.specs.Task.{IsTaskOf, task_with}
use Rattle.command_words.specs.declared.command.Settings.{Settings}
use Rattle.answer_core.specs.declared.task.Task.{Task}
use Rattle.answer_core.specs.declared.status.QueryWhy.{QueryWhy}
use Rattle.answer_core.specs.declared.status.QueryWhy.TheVariants as why
use Rattle.answer_core.specs.Queries.{HasQuery, IsRefused}

abbrev query_or : Query → Result Query QueryFault → Query
query_or q (Ok p) = p
query_or q (Err e) = q

pub one_query : (text : List ℕ) (p q : Query) → HasQuery text (Ok p) → HasQuery text (Ok q) → p ≡ q
one_query text p q h g = ap (query_or p) (only_answer text (Ok p) (Ok q) h g)

-- so settings have at most one task
pub one_task : (s : Settings) (q : Query) (t : Task) → HasQuery s.query (Ok q) → IsTaskOf s t → t ≡ task_with s q
one_task s q t h x = x.is ∙ ap (task_with s) (one_query s.query t.query q x.query h)

no_fault : (text : List ℕ) (q : Query) (f : QueryFault) → HasQuery text (Ok q) → IsAnswer text (Err f) → ⊥
no_fault text q f h g = false≢true (ap is_ok (only_answer text (Err f) (Ok q) g h))

pub not_both : (text : List ℕ) (q : Query) (at : ℕ) (reason : QueryWhy) → HasQuery text (Ok q) → IsRefused text at reason → ⊥
not_both text q at why.Syntax h g = no_fault text q (faults.Syntax at) h g
not_both text q at why.Unsupported h g = no_fault text q (faults.Unsupported at) h g
not_both text q at why.Deep h g = no_fault text q (faults.Deep at) h g
not_both text q at why.Long h g = no_fault text q faults.LongQuery h g.1

-- the fault of a place and a reason, and back
abbrev fault_for : ℕ → QueryWhy → QueryFault
fault_for at why.Syntax = faults.Syntax at
fault_for at why.Unsupported = faults.Unsupported at
fault_for at why.Deep = faults.Deep at
fault_for at why.Long = faults.LongQuery

abbrev place : QueryFault → ℕ
place (faults.Syntax at) = at
place (faults.Unsupported at) = at
place (faults.Deep at) = at
place faults.LongQuery = most_bytes
place faults.Memory = 0

abbrev reason_of : QueryFault → QueryWhy
reason_of (faults.Syntax at) = why.Syntax
reason_of (faults.Unsupported at) = why.Unsupported
reason_of (faults.Deep at) = why.Deep
reason_of faults.LongQuery = why.Long
reason_of faults.Memory = why.Syntax

abbrev fault_or : QueryFault → Result Query QueryFault → QueryFault
fault_or f (Ok p) = f
fault_or f (Err e) = e

is_answer : (text : List ℕ) (at : ℕ) (r : QueryWhy) → IsRefused text at r → IsAnswer text (Err (fault_for at r))
is_answer text at why.Syntax h = h
is_answer text at why.Unsupported h = h
is_answer text at why.Deep h = h
is_answer text at why.Long h = h.1

place_is : (text : List ℕ) (at : ℕ) (r : QueryWhy) → IsRefused text at r → place (fault_for at r) ≡ at
place_is text at why.Syntax h = refl
place_is text at why.Unsupported h = refl
place_is text at why.Deep h = refl
place_is text at why.Long h = sym h.0

reason_is : (at : ℕ) (r : QueryWhy) → reason_of (fault_for at r) ≡ r
reason_is at why.Syntax = refl
reason_is at why.Unsupported = refl
reason_is at why.Deep = refl
reason_is at why.Long = refl

same_fault : (text : List ℕ) (a b : ℕ) (r s : QueryWhy) → IsRefused text a r → IsRefused text b s → fault_for a r ≡ fault_for b s
same_fault text a b r s h g = ap (fault_or (fault_for a r)) (only_answer text (Err (fault_for a r)) (Err (fault_for b s)) (is_answer text a r h) (is_answer text b s g))

pub one_place : (text : List ℕ) (a b : ℕ) (r s : QueryWhy) → IsRefused text a r → IsRefused text b s → a ≡ b
one_place text a b r s h g = sym (place_is text a r h) ∙ (ap place (same_fault text a b r s h g) ∙ place_is text b s g)

pub one_reason : (text : List ℕ) (a b : ℕ) (r s : QueryWhy) → IsRefused text a r → IsRefused text b s → r ≡ s
one_reason text a b r s h g = sym (reason_is a r) ∙ (ap reason_of (same_fault text a b r s h g) ∙ reason_is b s)

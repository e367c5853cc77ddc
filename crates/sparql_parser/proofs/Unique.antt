-- Each text has exactly one answer.
use Rattle.std.proofs.Common.{◌≡◌, ℕ, List, Bool, true, false, Result, Err, length, refl, sym, ap, subst, ◌∙◌}
use Rattle.std.specs.Prelude.{nat_lt}
use Rattle.algebra_core.specs.declared.query.Query.{Query}
use Rattle.sparql_lexer.specs.declared.token.QueryToken.{QueryToken}
use Rattle.sparql_lexer.proofs.Query.{one_token_list, a_token_list}
use Rattle.sparql_parser.specs.declared.fault.QueryFault.{QueryFault}
use Rattle.sparql_parser.specs.declared.fault.QueryFault.TheVariants as faults
use Rattle.sparql_parser.specs.Grammar.{QueryUnit, reads}
use Rattle.sparql_resolve.specs.Resolving.{names_of, width_of, tokens_of, stop_of}
use Rattle.sparql_parser.specs.Answer.{answer_by, IsRead, is_answer_by, IsAnswer, most_bytes}
use Rattle.sparql_parser.proofs.Whole.{reads_it, only_one}

abbrev pub A : Type 0
A = Result Query QueryFault

pub read_answer : (bytes : List ℕ) (ts : List QueryToken) → IsRead bytes ts (answer_by (names_of bytes ts) (width_of bytes ts) (reads (stop_of bytes ts) QueryUnit (tokens_of bytes ts)))
read_answer bytes ts = (reads (stop_of bytes ts) QueryUnit (tokens_of bytes ts), reads_it (stop_of bytes ts) (tokens_of bytes ts), refl)

only_read : (bytes : List ℕ) (ts : List QueryToken) (a b : A) → IsRead bytes ts a → IsRead bytes ts b → a ≡ b
only_read bytes ts a b h g = h.2 ∙ (ap (answer_by (names_of bytes ts) (width_of bytes ts)) (only_one (stop_of bytes ts) (tokens_of bytes ts) h.0 g.0 h.1 g.1) ∙ sym g.2)

read_again : (bytes : List ℕ) (ts us : List QueryToken) (b : A) → ts ≡ us → IsRead bytes us b → IsRead bytes ts b
read_again bytes ts us b e h = subst (λ (x : List QueryToken). IsRead bytes x b) (sym e) h

by_length : (long : Bool) (bytes : List ℕ) → (a : A) × is_answer_by long bytes a
by_length true bytes = (Err faults.LongQuery, refl)
by_length false bytes = let t = a_token_list bytes in (_, (t.0, t.1, read_answer bytes t.0))

only_by_length : (long : Bool) (bytes : List ℕ) (a b : A) → is_answer_by long bytes a → is_answer_by long bytes b → a ≡ b
only_by_length true bytes a b h g = h ∙ sym g
only_by_length false bytes a b h g = only_read bytes h.0 a b h.2 (read_again bytes h.0 g.0 b (one_token_list bytes h.0 g.0 h.1 g.1) g.2)

pub an_answer : (bytes : List ℕ) → (a : A) × IsAnswer bytes a
an_answer bytes = by_length (nat_lt most_bytes (length bytes)) bytes

pub only_answer : (bytes : List ℕ) (a b : A) → IsAnswer bytes a → IsAnswer bytes b → a ≡ b
only_answer bytes a b h g = only_by_length (nat_lt most_bytes (length bytes)) bytes a b h g

-- Basic graph patterns of a query (SPARQL 1.1, section 5.1): the triples that one of them collects, and the braces between them.
use Rattle.std.specs.Prelude.{◌≡◌, List, [], ◌∷◌, Bool, true, false, ◌||◌, if◌then◌else◌}
use Rattle.rows_core.specs.declared.pattern.TriplePattern.{TriplePattern}
use Rattle.grammar_model.specs.Parsers.{Return, Fail, Advance, Peek, Call, Done, Rejected, Reads, give, misfit, skip, skip_end, look, call, call_not, first_of_list}
use Rattle.sparql_resolve.specs.declared.fault.Fault.{Fault}
use Rattle.sparql_resolve.specs.declared.kind.Kind.{Kind}
use Rattle.sparql_resolve.specs.declared.kind.Kind.TheVariants as kinds
use Rattle.sparql_resolve.specs.declared.kind.Token.{Token}
use Rattle.sparql_parser.specs.Grammar.{Nonterminal, TriplesBlock, Value, G, E, body, sparql}

-- `{` or `}`
abbrev pub is_brace : Kind → Bool
is_brace kinds.OpenBrace = true
is_brace kinds.ShutBrace = true
is_brace _ = false

-- no triple pattern
abbrev pub is_nil : List TriplePattern → Bool
is_nil [] = true
is_nil (p ∷ ps) = false

-- triples that one dot or more join
abbrev pub is_block : Nonterminal → Bool
is_block (TriplesBlock before) = true
is_block _ = false

-- a block of triples begins its basic graph pattern, with no triple pattern before it, exactly where it stands apart from the block before
abbrev pub Begins : Nonterminal → Bool → Type 0
Begins (TriplesBlock before) apart = is_nil before ≡ apart
Begins _ apart = Unit {0}

module _ (stop : Fault) where
  -- whether what follows the tokens that were read stands apart from the last block of triples: a brace stands between them, or there is no such block; given whether the tokens themselves do
  abbrev pub apart_behind : (m : Nonterminal) (p : G (Value m)) (ts : List Token) (o : E m) → Reads (sparql stop) m p ts o → Bool → Bool
  apart_behind m (Return v) ts _ give apart = apart
  apart_behind m Fail ts _ misfit apart = apart
  apart_behind m (Advance p) (t ∷ ts) o (skip r) apart = apart_behind m p ts o r (is_brace t.kind || apart)
  apart_behind m (Advance p) [] _ skip_end apart = apart
  apart_behind m (Peek by') ts o (look r) apart = apart_behind m (by' (first_of_list ts)) ts o r apart
  apart_behind m (Call q k) ts o (call {us} {v} r more) apart = apart_behind m (k v) us o more (if is_block q then false else apart_behind q (body q) ts (Done v us) r apart)
  apart_behind m (Call q k) ts _ (call_not r) apart = apart

  -- each block that is read begins so
  abbrev pub BlocksFit : (m : Nonterminal) (p : G (Value m)) (ts : List Token) (o : E m) → Reads (sparql stop) m p ts o → Bool → Type 0
  BlocksFit m (Return v) ts _ give apart = Unit {0}
  BlocksFit m Fail ts _ misfit apart = Unit {0}
  BlocksFit m (Advance p) (t ∷ ts) o (skip r) apart = BlocksFit m p ts o r (is_brace t.kind || apart)
  BlocksFit m (Advance p) [] _ skip_end apart = Unit {0}
  BlocksFit m (Peek by') ts o (look r) apart = BlocksFit m (by' (first_of_list ts)) ts o r apart
  BlocksFit m (Call q k) ts o (call {us} {v} r more) apart =
      Begins q apart × BlocksFit q (body q) ts (Done v us) r apart
      × BlocksFit m (k v) us o more (if is_block q then false else apart_behind q (body q) ts (Done v us) r apart)
  BlocksFit m (Call q k) ts _ (call_not {x} r) apart = Begins q apart × BlocksFit q (body q) ts (Rejected x) r apart

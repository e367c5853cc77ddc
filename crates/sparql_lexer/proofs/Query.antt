-- The rules of queries with their automaton, and what follows for its token lists.
use Rattle.std.proofs.Common.{◌≡◌, List, [], ◌∷◌, ℕ, drop, true, false, refl}
use Rattle.terminals.specs.declared.class.Class.{Class}
use Rattle.terminals.specs.Utf8.{symbols_of}
use Rattle.terminals.specs.Rules.{Never, allows}
use Rattle.terminals.proofs.Lexicon.{Lexicon}
use Rattle.terminals.proofs.Unique as unique
use Rattle.terminals.proofs.Existence.{has_list}
use Rattle.sparql_lexer.specs.declared.kind.QueryKind.{QueryKind}
use Rattle.sparql_lexer.specs.declared.kind.QueryKind.TheVariants as kinds
use Rattle.sparql_lexer.specs.declared.token.QueryToken.{QueryToken}
use Rattle.sparql_lexer.specs.declared.state.State.{State}
use Rattle.sparql_lexer.specs.declared.state.State.TheVariants as at
use Rattle.sparql_lexer.specs.Rules.{rule_of}
use Rattle.sparql_lexer.specs.State.{stepped, kind_of, is_waiting}
use Rattle.sparql_lexer.specs.Tokens.{token_of, is_last, skipped, QueryTokens}
use Rattle.sparql_lexer.proofs.Derivatives.{query_decides, sole_kind}
use Rattle.sparql_lexer.proofs.Lookahead.{no_ill, shade, shade_back, shade_unfinished, is_dotted, waiting_shade}

abbrev pub query : Lexicon State QueryKind QueryToken
query = record {
  rule_of = rule_of;
  token = token_of;
  bad = kinds.Bad;
  last = kinds.End;
  stepped = stepped;
  kind_of = kind_of;
  start = at.Start;
  empty = refl;
  decides = query_decides;
  ill = no_ill;
  is_waiting = is_waiting;
  shade = shade;
  dot = at.PrefixDot;
  begins = refl;
  waits = waiting_shade;
  back = shade_back;
  unfinished = shade_unfinished;
  dotted = is_dotted;
}

never : (xs : List Class) → allows Never xs ≡ true → ⊥
never [] e = absurd cc
never (x ∷ xs) e = never xs e

-- no rule allows a Bad or an End
pub not_last : (k : QueryKind) (xs : List Class) → allows (rule_of k) xs ≡ true → is_last k ≡ false
not_last kinds.Bad xs e = absurd (never xs e)
not_last kinds.End xs e = absurd (never xs e)
not_last k xs e = refl

-- a text has one list of tokens
pub one_token_list : (bytes : List ℕ) (a b : List QueryToken) → QueryTokens bytes a → QueryTokens bytes b → a ≡ b
one_token_list bytes a b p q = unique.one_list rule_of token_of kinds.Bad kinds.End sole_kind false (skipped bytes) (symbols_of (drop (skipped bytes) bytes)) a b p q

-- and it has one
pub a_token_list : (bytes : List ℕ) → (tokens : List QueryToken) × QueryTokens bytes tokens
a_token_list bytes = has_list query false (skipped bytes) (symbols_of (drop (skipped bytes) bytes))

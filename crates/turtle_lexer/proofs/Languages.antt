-- The rules of each language with their automaton, and what follows for the token lists.
use Rattle.std.proofs.Common.{◌≡◌, List, [], ◌∷◌, ℕ, drop, true, false, Option, Some, None, refl}
use Rattle.terminals.specs.declared.class.Class.{Class}
use Rattle.terminals.specs.declared.class.Class.TheVariants as classes
use Rattle.terminals.specs.Utf8.{symbols_of}
use Rattle.terminals.specs.Rules.{Never, allows}
use Rattle.terminals.proofs.Lexicon.{Lexicon}
use Rattle.terminals.proofs.Longest.{Decides}
use Rattle.terminals.proofs.Unique as unique
use Rattle.terminals.proofs.Existence.{has_list}
use Rattle.turtle_lexer.specs.declared.dialect.Dialect.{Dialect}
use Rattle.turtle_lexer.specs.declared.dialect.Dialect.TheVariants as dialects
use Rattle.turtle_lexer.specs.declared.kind.TurtleKind.{TurtleKind}
use Rattle.turtle_lexer.specs.declared.kind.TurtleKind.TheVariants as kinds
use Rattle.turtle_lexer.specs.declared.token.Token.{Token}
use Rattle.turtle_lexer.specs.declared.state.State.{State}
use Rattle.turtle_lexer.specs.declared.state.State.TheVariants as at
use Rattle.turtle_lexer.specs.Rules.{rule_in}
use Rattle.turtle_lexer.specs.State.{stepped_in, kind_of, is_waiting}
use Rattle.turtle_lexer.specs.Tokens.{token_of, is_last, skipped, TokensIn}
use Rattle.turtle_lexer.proofs.Derivatives.{turtle_decides}
use Rattle.turtle_lexer.proofs.NTriples.{ntriples_decides, ntriples_no_ill, ntriples_shade_back}
use Rattle.turtle_lexer.proofs.Lookahead.{no_ill, shade, shade_back, shade_unfinished, is_dotted, waiting_shade}

pub decides_in : (d : Dialect) → Decides (stepped_in d) kind_of (rule_in d) at.Start
decides_in dialects.Turtle = turtle_decides
decides_in dialects.NTriples = ntriples_decides

pub no_ill_in : (d : Dialect) (s : State) → stepped_in d s classes.Ill ≡ None
no_ill_in dialects.Turtle = no_ill
no_ill_in dialects.NTriples = ntriples_no_ill

pub shade_back_in : (d : Dialect) (s t b : State) (x : Class) → stepped_in d s x ≡ Some t → shade t ≡ Some b → (a : State) × (shade s ≡ Some a) × (stepped_in d a x ≡ Some b)
shade_back_in dialects.Turtle = shade_back
shade_back_in dialects.NTriples = ntriples_shade_back

abbrev pub lexicon : Dialect → Lexicon State TurtleKind Token
lexicon d = record {
  rule_of = rule_in d;
  token = token_of;
  bad = kinds.Bad;
  last = kinds.End;
  stepped = stepped_in d;
  kind_of = kind_of;
  start = at.Start;
  empty = refl;
  decides = decides_in d;
  ill = no_ill_in d;
  is_waiting = is_waiting;
  shade = shade;
  dot = at.PrefixDot;
  begins = refl;
  waits = waiting_shade;
  back = shade_back_in d;
  unfinished = shade_unfinished;
  dotted = is_dotted d;
}

never : (xs : List Class) → allows Never xs ≡ true → ⊥
never [] e = absurd cc
never (x ∷ xs) e = never xs e

-- no rule allows a Bad or an End
pub not_last : (d : Dialect) (k : TurtleKind) (xs : List Class) → allows (rule_in d k) xs ≡ true → is_last k ≡ false
not_last dialects.Turtle kinds.Bad xs e = absurd (never xs e)
not_last dialects.Turtle kinds.End xs e = absurd (never xs e)
not_last dialects.NTriples kinds.Bad xs e = absurd (never xs e)
not_last dialects.NTriples kinds.End xs e = absurd (never xs e)
not_last d k xs e = refl

-- no text is of two kinds
sole_kind : (d : Dialect) (xs : List Class) (j k : TurtleKind) → allows (rule_in d j) xs ≡ true → allows (rule_in d k) xs ≡ true → j ≡ k
sole_kind d xs j k e f = let p = (decides_in d).only xs j e in let q = (decides_in d).only xs k f in cc

-- a text has one list of tokens
pub one_token_list : (d : Dialect) (bytes : List ℕ) (a b : List Token) → TokensIn d bytes a → TokensIn d bytes b → a ≡ b
one_token_list d bytes a b p q = unique.one_list (rule_in d) token_of kinds.Bad kinds.End (sole_kind d) false (skipped bytes) (symbols_of (drop (skipped bytes) bytes)) a b p q

-- and it has one
pub a_token_list : (d : Dialect) (bytes : List ℕ) → (tokens : List Token) × TokensIn d bytes tokens
a_token_list d bytes = has_list (lexicon d) false (skipped bytes) (symbols_of (drop (skipped bytes) bytes))

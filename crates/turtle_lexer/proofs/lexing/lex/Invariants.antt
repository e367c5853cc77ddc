use Rattle.std.proofs.Common.{◌≡◌, ◌≤◌, ◌-◌, ◌++◌, List, length, drop, false}
use Rattle.std.specs.Prelude.{All}
use Rattle.terminals.specs.Utf8.{symbols_of}
use Rattle.turtle_lexer.specs.declared.token.Token.{Token}
use Rattle.turtle_lexer.specs.State.{HasNoPrefixedName}
use Rattle.turtle_lexer.specs.Tokens.{HasSpan, IsPlain, LexesIn, TokensIn, is_last}
use Rattle.turtle_lexer.proofs.lexing.lex.Given as goal

abbrev pub invariant-loop-token : goal.invariant-loop-token
invariant-loop-token l = record {
  within : l.at ≤ length l.bytes;
  nameless : HasNoPrefixedName l.dialect l.no_colon_before l.at (symbols_of (drop l.at l.bytes));
  spans : All (HasSpan (length l.bytes)) l.tokens.items;
  plain : All (IsPlain l.bytes) l.tokens.items;
  unended : All (λ t. is_last t.kind ≡ false) l.tokens.items;
  so_far : (ts : List Token) → LexesIn l.dialect false l.at (symbols_of (drop l.at l.bytes)) ts → TokensIn l.dialect l.bytes (l.tokens.items ++ ts);
}

abbrev pub decreases-loop-token : goal.decreases-loop-token
decreases-loop-token l = length l.bytes - l.at

use Rattle.std.proofs.Common.{◌≡◌, ◌<◌, ◌+◌, ◌*◌, length}
use Rattle.sparql_parser.specs.Grammar.{reads, OrOperands, MoreOr, AndOperands, MoreAnd, Operands, MoreOperands}
use Rattle.sparql_parser.proofs.exprs.+expression.Given as goal

abbrev pub decreases-parse_expression : goal.decreases-parse_expression
decreases-parse_expression l = 8 * length l.tokens.now + 6

abbrev pub decreases-parse_more_or : goal.decreases-parse_more_or
decreases-parse_more_or l = 8 * length l.tokens.now + 6

abbrev pub decreases-parse_and : goal.decreases-parse_and
decreases-parse_and l = 8 * length l.tokens.now + 5

abbrev pub decreases-parse_more_and : goal.decreases-parse_more_and
decreases-parse_more_and l = 8 * length l.tokens.now + 5

abbrev pub decreases-parse_relational : goal.decreases-parse_relational
decreases-parse_relational l = 8 * length l.tokens.now + 4

abbrev pub decreases-parse_additive : goal.decreases-parse_additive
decreases-parse_additive l = 8 * length l.tokens.now + 3

abbrev pub decreases-parse_operands : goal.decreases-parse_operands
decreases-parse_operands l = 8 * length l.tokens.now + 3

abbrev pub decreases-parse_unary : goal.decreases-parse_unary
decreases-parse_unary l = 8 * length l.tokens.now + 2

abbrev pub decreases-parse_primary : goal.decreases-parse_primary
decreases-parse_primary l = 8 * length l.tokens.now + 1

abbrev pub decreases-parse_same_term : goal.decreases-parse_same_term
decreases-parse_same_term l = 8 * length l.tokens.now

abbrev pub decreases-parse_bracketed : goal.decreases-parse_bracketed
decreases-parse_bracketed l = 8 * length l.tokens.now

abbrev pub invariant-parse_more_or-loop-after : goal.invariant-parse_more_or-loop-after
invariant-parse_more_or-loop-after l = record {
  within : length l.rest < length l.tokens;
  so_far : reads l.stop (MoreOr l.all.items) l.rest ≡ reads l.stop (OrOperands l.fn.first) l.tokens;
}

abbrev pub decreases-parse_more_or-loop-after : goal.decreases-parse_more_or-loop-after
decreases-parse_more_or-loop-after l = length l.rest

abbrev pub invariant-parse_more_and-loop-after : goal.invariant-parse_more_and-loop-after
invariant-parse_more_and-loop-after l = record {
  within : length l.rest < length l.tokens;
  so_far : reads l.stop (MoreAnd l.all.items) l.rest ≡ reads l.stop (AndOperands l.fn.first) l.tokens;
}

abbrev pub decreases-parse_more_and-loop-after : goal.decreases-parse_more_and-loop-after
decreases-parse_more_and-loop-after l = length l.rest

abbrev pub invariant-parse_operands-loop-token : goal.invariant-parse_operands-loop-token
invariant-parse_operands-loop-token l = record {
  within : length l.rest < length l.tokens;
  so_far : reads l.stop (MoreOperands l.all.items) l.rest ≡ reads l.stop (Operands l.fn.sign) l.tokens;
}

abbrev pub decreases-parse_operands-loop-token : goal.decreases-parse_operands-loop-token
decreases-parse_operands-loop-token l = length l.rest

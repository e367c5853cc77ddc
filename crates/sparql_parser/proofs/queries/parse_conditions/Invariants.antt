use Rattle.std.proofs.Common.{◌≡◌, length}
use Rattle.sparql_parser.specs.Grammar.{reads, OrderClause, MoreConditions}
use Rattle.sparql_parser.proofs.queries.parse_conditions.Given as goal

abbrev pub invariant-conditions : goal.invariant-conditions
invariant-conditions l = reads l.stop (MoreConditions l.all.items) l.rest ≡ reads l.stop OrderClause l.tokens

abbrev pub decreases-conditions : goal.decreases-conditions
decreases-conditions l = length l.rest

use Rattle.std.proofs.Common.{◌≡◌, length}
use Rattle.sparql_parser.specs.Grammar.{reads, QueryUnit}
use Rattle.sparql_parser.proofs.queries.parse_query.Given as goal

abbrev pub invariant-loop-token : goal.invariant-loop-token
invariant-loop-token l = reads l.stop QueryUnit l.rest ≡ reads l.stop QueryUnit l.tokens

abbrev pub decreases-loop-token : goal.decreases-loop-token
decreases-loop-token l = length l.rest

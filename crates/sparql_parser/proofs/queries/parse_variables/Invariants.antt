use Rattle.std.proofs.Common.{◌≡◌, [], length}
use Rattle.sparql_parser.specs.Grammar.{reads, Variables}
use Rattle.sparql_parser.proofs.queries.parse_variables.Given as goal

abbrev pub invariant-loop-token : goal.invariant-loop-token
invariant-loop-token l = reads l.fn.stop (Variables l.all.items) l.rest ≡ reads l.fn.stop (Variables []) l.tokens

abbrev pub decreases-loop-token : goal.decreases-loop-token
decreases-loop-token l = length l.rest

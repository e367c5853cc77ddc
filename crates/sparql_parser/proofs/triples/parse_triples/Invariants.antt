use Rattle.std.proofs.Common.{◌≡◌, ◌<◌, length}
use Rattle.sparql_parser.specs.Grammar.{reads, TriplesBlock, MoreTriples}
use Rattle.sparql_parser.proofs.triples.parse_triples.Given as goal

abbrev pub invariant-loop-after : goal.invariant-loop-after
invariant-loop-after l = record {
  within : length l.rest < length l.tokens;
  so_far : reads l.stop (MoreTriples l.out.items) l.rest ≡ reads l.stop (TriplesBlock l.fn.out.items) l.tokens;
}

abbrev pub decreases-loop-after : goal.decreases-loop-after
decreases-loop-after l = length l.rest

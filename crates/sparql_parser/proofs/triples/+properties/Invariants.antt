use Rattle.std.proofs.Common.{◌≡◌, ◌<◌, ◌≤◌, ◌+◌, ◌*◌, length}
use Rattle.sparql_parser.specs.Grammar.{reads, PropertyList, MoreProperties, ObjectList, MoreObjects}
use Rattle.sparql_parser.proofs.triples.+properties.Given as goal

abbrev pub decreases-parse_properties : goal.decreases-parse_properties
decreases-parse_properties l = 8 * length l.tokens.now + 4

abbrev pub decreases-parse_verb : goal.decreases-parse_verb
decreases-parse_verb l = 8 * length l.tokens.now + 3

abbrev pub decreases-parse_objects : goal.decreases-parse_objects
decreases-parse_objects l = 8 * length l.tokens.now + 2

abbrev pub decreases-parse_object : goal.decreases-parse_object
decreases-parse_object l = 8 * length l.tokens.now + 1

abbrev pub decreases-parse_blank_object : goal.decreases-parse_blank_object
decreases-parse_blank_object l = 8 * length l.tokens.now + 5

abbrev pub invariant-parse_properties-loop-after : goal.invariant-parse_properties-loop-after
invariant-parse_properties-loop-after l = record {
  within : length l.rest < length l.tokens;
  so_far : reads l.stop (MoreProperties l.subject l.out.items) l.rest ≡ reads l.stop (PropertyList l.subject l.fn.out.items) l.tokens;
}

abbrev pub decreases-parse_properties-loop-after : goal.decreases-parse_properties-loop-after
decreases-parse_properties-loop-after l = length l.rest

abbrev pub invariant-parse_objects-loop-after : goal.invariant-parse_objects-loop-after
invariant-parse_objects-loop-after l = record {
  within : length l.rest < length l.tokens;
  so_far : reads l.stop (MoreObjects l.subject l.verb l.out.items) l.rest ≡ reads l.stop (ObjectList l.subject l.verb l.fn.out.items) l.tokens;
}

abbrev pub decreases-parse_objects-loop-after : goal.decreases-parse_objects-loop-after
decreases-parse_objects-loop-after l = length l.rest

use Rattle.std.proofs.Common.{◌≡◌, ◌<◌, ◌≤◌, ◌+◌, ◌*◌, length}
use Rattle.algebra_translation.specs.Views.{view}
use Rattle.sparql_parser.specs.Grammar.{reads, GroupGraphPatternSub, TriplesOrElements, MoreGroups}
use Rattle.sparql_parser.proofs.groups.+group.Given as goal

abbrev pub decreases-parse_group : goal.decreases-parse_group
decreases-parse_group l = 8 * length l.tokens.now + 3

abbrev pub decreases-parse_inside : goal.decreases-parse_inside
decreases-parse_inside l = 8 * length l.tokens.now + 2

abbrev pub decreases-parse_element : goal.decreases-parse_element
decreases-parse_element l = 8 * length l.tokens.now + 1

abbrev pub decreases-parse_optional : goal.decreases-parse_optional
decreases-parse_optional l = 8 * length l.tokens.now + 4

abbrev pub decreases-parse_groups : goal.decreases-parse_groups
decreases-parse_groups l = 8 * length l.tokens.now + 4

abbrev pub decreases-parse_union : goal.decreases-parse_union
decreases-parse_union l = 8 * length l.tokens.now + 3

abbrev pub decreases-parse_more_groups : goal.decreases-parse_more_groups
decreases-parse_more_groups l = 8 * length l.tokens.now + 1

abbrev pub invariant-parse_inside-elements : goal.invariant-parse_inside-elements
invariant-parse_inside-elements l = record {
  within : length l.rest ≤ length l.tokens;
  so_far : reads l.stop (TriplesOrElements (view l.stage)) l.rest ≡ reads l.stop GroupGraphPatternSub l.tokens;
}

abbrev pub decreases-parse_inside-elements : goal.decreases-parse_inside-elements
decreases-parse_inside-elements l = length l.rest

abbrev pub invariant-parse_more_groups-loop-after : goal.invariant-parse_more_groups-loop-after
invariant-parse_more_groups-loop-after l = record {
  within : length l.rest ≤ length l.tokens;
  so_far : reads l.stop (MoreGroups l.all) l.rest ≡ reads l.stop (MoreGroups l.fn.left) l.tokens;
}

abbrev pub decreases-parse_more_groups-loop-after : goal.decreases-parse_more_groups-loop-after
decreases-parse_more_groups-loop-after l = length l.rest

use Rattle.std.proofs.Common.{◌≡◌, ◌<◌, ◌+◌, ◌*◌, length}
use Rattle.turtle_reader.specs.Grammar.{reads, PredicateObjectList, MorePredicates, ObjectList, MoreObjects, Items, MoreItems}
use Rattle.turtle_reader.proofs.triples.+triples.Given as goal

abbrev pub decreases-predicate_object_list : goal.decreases-predicate_object_list
decreases-predicate_object_list l = 5 * length l.tokens.now + 2

abbrev pub decreases-verb_objects : goal.decreases-verb_objects
decreases-verb_objects l = 5 * length l.tokens.now + 1

abbrev pub decreases-object_list : goal.decreases-object_list
decreases-object_list l = 5 * length l.tokens.now + 1

abbrev pub decreases-object : goal.decreases-object
decreases-object l = 5 * length l.tokens.now

abbrev pub decreases-blank_object : goal.decreases-blank_object
decreases-blank_object l = 5 * length l.tokens.now + 3

abbrev pub decreases-collection : goal.decreases-collection
decreases-collection l = 5 * length l.tokens.now + 3

abbrev pub decreases-items : goal.decreases-items
decreases-items l = 5 * length l.tokens.now + 2

abbrev pub decreases-item : goal.decreases-item
decreases-item l = 5 * length l.tokens.now + 1

abbrev pub invariant-predicate_object_list-loop-after : goal.invariant-predicate_object_list-loop-after
invariant-predicate_object_list-loop-after l = record {
  within : length l.rest < length l.tokens;
  so_far : reads l.setting.doc l.setting.stop (MorePredicates l.s l.out.items) l.rest ≡ reads l.setting.doc l.setting.stop (PredicateObjectList l.s l.fn.out.items) l.tokens;
}

abbrev pub decreases-predicate_object_list-loop-after : goal.decreases-predicate_object_list-loop-after
decreases-predicate_object_list-loop-after l = length l.rest

abbrev pub invariant-object_list-loop-after : goal.invariant-object_list-loop-after
invariant-object_list-loop-after l = record {
  within : length l.rest < length l.tokens;
  so_far : reads l.setting.doc l.setting.stop (MoreObjects l.s l.p l.out.items) l.rest ≡ reads l.setting.doc l.setting.stop (ObjectList l.s l.p l.fn.out.items) l.tokens;
}

abbrev pub decreases-object_list-loop-after : goal.decreases-object_list-loop-after
decreases-object_list-loop-after l = length l.rest

abbrev pub invariant-items-loop-token : goal.invariant-items-loop-token
invariant-items-loop-token l = record {
  within : length l.rest < length l.tokens;
  so_far : reads l.setting.doc l.setting.stop (MoreItems l.cell l.out.items) l.rest ≡ reads l.setting.doc l.setting.stop (Items l.fn.first_cell l.fn.out.items) l.tokens;
}

abbrev pub decreases-items-loop-token : goal.decreases-items-loop-token
decreases-items-loop-token l = length l.rest

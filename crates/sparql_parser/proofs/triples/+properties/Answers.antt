use Rattle.std.proofs.Common.{◌∙◌, sym}
use Rattle.sparql_parser.proofs.Here.{object_more, still_within}
use Rattle.sparql_parser.proofs.triples.+properties.Goals as goal

pub parse_objects-loop-after-preserved : goal.parse_objects-loop-after-preserved
parse_objects-loop-after-preserved t c =
    record {
      within = still_within c.loop-after.rest.now c.in-Some.after.now c.in_ok-object-2.left.now c.args.tokens.now c.in-Some.ensures.0 c.in-Some.ensures.2 c.in_ok-object-2.ensures.fewer c.loop-after.invariant.within;
      so_far =
          sym (object_more c.args.stop c.args.subject.now c.args.verb.now c.in_ok-object-2.object c.loop-after.out.items _ c.push-in-Some.new.self.items c.in_ok-pattern-2.field-0
          c.loop-after.rest.now c.in-Some.after.now c.in_ok-object-2.left.now c.in-Some.ensures.0 c.in-Some.ensures.1 c.in-Some.ensures.2 c.in_ok-object-2.ensures.value c.in_ok-pattern-2.ensures c.in_ok-push-2.ensures.items)
          ∙ c.loop-after.invariant.so_far;
    }

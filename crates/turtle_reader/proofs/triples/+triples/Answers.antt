use Rattle.std.proofs.Common.{arith}
use Rattle.turtle_reader.proofs.Lists.{next_item}
use Rattle.turtle_reader.proofs.triples.+triples.Goals as goal

pub items-loop-token-preserved : goal.items-loop-token-preserved
items-loop-token-preserved t c = record {
  within = omega (arith, c.in_ok-rest-in_default-kind.ensures.fewer);
  so_far = next_item c.args.setting.now.doc c.args.setting.now.stop c.loop-token.cell c.loop-token.out.items c.link.new.out.items c.item-in_default-kind.new.out.items
      c.in-Some.token.now c.in-Some.after.now c.loop-token.rest.now c.in_ok-rest-in_default-kind.rest.now _ c.in-Some.ensures c.in_default-kind.not-ShutParen c.in_ok-link-in_default-kind.ensures c.in_ok-rest-in_default-kind.ensures.value c.loop-token.invariant.so_far;
}

use Rattle.std.proofs.lemmas.Bool.{ne_eqb}
use Rattle.terminals.proofs.Undoing.{escape_more, byte_more, all_undone}
use Rattle.terminals.proofs.unescaping.unescaped.Goals as goal

pub loop-byte-preserved-then-byte-eq92 : goal.loop-byte-preserved-then-byte-eq92
loop-byte-preserved-then-byte-eq92 c =
    escape_more c.loop-byte.out.items c.push_escape.new.out.items c.loop-byte.rest.now c.in-Some.after.now c.behind-rest.result.now c.args.bytes.now c.in-Some.byte c.escape_width.result c.first_or_zero.result
    c.in-Some.ensures c.if-byte-eq92.true c.in_ok-push_escape.ensures c.behind-rest.ensures c.escape_width.ensures c.first_or_zero.ensures c.loop-byte.invariant

pub loop-byte-preserved : goal.loop-byte-preserved
loop-byte-preserved c = byte_more c.loop-byte.out.items c.push.new.self.items c.loop-byte.rest.now c.in-Some.after.now c.args.bytes.now c.in-Some.byte c.in-Some.ensures (ne_eqb _ _ c.if-byte-eq92.false) c.in_ok-push.ensures.items c.loop-byte.invariant

pub returns : goal.returns
returns c = all_undone c.loop-byte.out.items c.loop-byte.rest.now c.args.bytes.now c.in_default.ensures c.loop-byte.invariant

use Rattle.std.proofs.Common.{◌≤◌, ◌+◌, ap, sym, arith, length}
use Rattle.http_header.specs.Token.{lowercase}
use Rattle.http_header.specs.FieldValue.{plain_value}
use Rattle.http_header.specs.HeaderMap.{value_count}
use Rattle.httparse.specs.declared.spans.HeaderSpan.{HeaderSpan}
use Rattle.http_message.proofs.HeadLemmas.{map_step, room_after}
use Rattle.http_message.proofs.fields.field_map.Goals as goal

pub loop-header-preserved : goal.loop-header-preserved
loop-header-preserved c =
    let room = room_after c.loop-header.map (lowercase c.of.result.now) (plain_value c.of-in-loop-header.result.now) in
    let old = c.loop-header.invariant in
    let names : length c.put.new.map ≤ c.loop-header.header-index + 1 = omega (arith, room.0, old.1, ap length c.in_ok-put.ensures) in
    let values : value_count c.put.new.map ≤ c.loop-header.header-index + 1 = omega (arith, room.1, old.2, ap value_count c.in_ok-put.ensures) in
    let none : HeaderSpan = record { name = record { start = 0; end = 0 }; value = record { start = 0; end = 0 } } in
    (rw (c.in_ok-put.ensures, c.of.ensures, c.of-in-loop-header.ensures, old.0) (sym (map_step c.args.buf.now c.args.headers.now c.loop-header.header-index none c.loop-header-test.true)), names, values)

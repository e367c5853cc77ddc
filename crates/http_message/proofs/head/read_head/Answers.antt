use Rattle.std.proofs.Common.{◌≤◌, ap, arith, take, length, [], length-append}
use Rattle.httparse.specs.Grammar.{print_response}
use Rattle.httparse.specs.Spans.{header_bytes, name_and_value}
use Rattle.http_message.specs.Heads.{IsStorable}
use Rattle.http_message.proofs.HeadLemmas.{storable, All-covered}
use Rattle.http_message.proofs.head.read_head.Goals as goal

pub field_map-requires-clause-storable : goal.field_map-requires-clause-storable
field_map-requires-clause-storable c =
    let k = c.in-Some.ensures.known in
    let short : length (print_response k.0) ≤ 65536 = omega (arith, ap length k.1.reads.1, length-append (print_response k.0) [], c.requires) in
    All-covered IsStorable (header_bytes c.args.buf.now) name_and_value (take c.in-Some.spans.headers c.parse_whole.new.headers) k.0.fields k.2.fields (storable k.0 k.1.reads.0 short)

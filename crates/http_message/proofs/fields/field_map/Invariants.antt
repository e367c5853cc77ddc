use Rattle.std.proofs.Common.{◌≡◌, ◌≤◌, length, take}
use Rattle.http_header.specs.HeaderMap.{value_count}
use Rattle.http_message.specs.Heads.{fields_at}
use Rattle.http_message.proofs.fields.field_map.Given as goal

abbrev pub invariant-loop-header : goal.invariant-loop-header
invariant-loop-header l = (l.map ≡ fields_at l.buf (take l.header-index l.headers)) × (length l.map ≤ l.header-index) × (value_count l.map ≤ l.header-index)

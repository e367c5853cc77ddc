use Rattle.std.proofs.Common.{◌≡◌, [], true}
use Rattle.std.specs.Prelude.{fold}
use Rattle.http_header.specs.HeaderMap.{get_all}
use Rattle.http_header.specs.Token.{lowercase}
use Rattle.http_message.specs.Heads.{with_value}
use Rattle.http_message.proofs.fields.joined.Given as goal

-- the values that are left complete the text
abbrev pub invariant-loop-value : goal.invariant-loop-value
invariant-loop-value l = fold with_value (l.all.items, l.is_first) l.value-iterator ≡ fold with_value ([], true) (get_all l.map (lowercase l.name))

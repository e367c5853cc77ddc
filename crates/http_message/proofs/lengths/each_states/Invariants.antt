use Rattle.std.proofs.Common.{◌≡◌}
use Rattle.std.specs.Prelude.{codes}
use Rattle.http_header.specs.HeaderMap.{get_all}
use Rattle.http_message.specs.Lengths as spec
use Rattle.http_message.proofs.lengths.each_states.Given as goal

-- the values that are left decide
abbrev pub invariant-loop-list : goal.invariant-loop-list
invariant-loop-list l =
    spec.all_state l.length (spec.all_members l.list-iterator) ≡ spec.all_state l.length (spec.all_members (get_all l.fields (codes "content-length")))

use Rattle.std.proofs.Common.{◌≡◌, ◌<◌, length, get_or, rules}
use Rattle.symmetric_join.specs.Keys.{key_of}
use Rattle.symmetric_join.proofs.Listing.{lists_more, lists_same}
use Rattle.symmetric_join.proofs.keyed.KeyedRows.list_row.Goals as goal

pub invariant_of-self : goal.invariant_of-self
invariant_of-self c = lists_same c.self.inside.vars.items c.self.inside.rows.items c.self.inside.listed c.self.inside.table c.list_place.new.table c.self.invariant c.in_err-list_place.ensures.err

pub invariant_of-self-2 : goal.invariant_of-self-2
invariant_of-self-2 c =
    let below : c.self.inside.listed < length c.self.inside.rows.items = search rules in
    let own : c.in_ok-key.key ≡ key_of c.self.inside.vars.items (get_or c.self.inside.rows.items c.self.inside.listed c.index.result.now) = cc (c.in_ok-key.ensures, c.as_slice.ensures.value, c.index.ensures) in
    lists_more c.self.inside.vars.items c.self.inside.rows.items c.self.inside.listed c.index.result.now c.in_ok-key.key c.self.inside.table c.list_place.new.table c.self.invariant below own c.in_ok-list_place.ensures.ok

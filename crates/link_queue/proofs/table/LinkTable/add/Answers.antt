use Rattle.std.proofs.Common.{◌≤◌, ◌+◌, ◌∙◌, sym, ap, length, arith}
use Rattle.std.specs.Prelude.{vec_capacity}
use Rattle.indexmap.proofs.CallerLemmas.{insert_entry-new}
use Rattle.link_uri.specs.Links.{same_link}
use Rattle.link_queue.specs.declared.state.LinkState.TheVariants.{Queued}
use Rattle.link_queue.proofs.Places.{link_at_push}
use Rattle.link_queue.proofs.Tables.{found_there, found_none, pushed_table, none_from}
use Rattle.link_queue.proofs.table.LinkTable.add.Goals as goal

pub invariant_of-self-in-None : goal.invariant_of-self-in-None
invariant_of-self-in-None c =
    let f = found_none c.self.inside.map.entries c.args.link c.in-None.ensures.index in
    let new = c.in_ok-insert-in-None.ensures.entries ∙ insert_entry-new same_link c.self.inside.map c.args.link Queued (none_from _ c.in-None.ensures.found) in
    let e = c.self.invariant.clear in
    let room : length c.self.inside.map.entries + 1 ≤ vec_capacity c.reserve.new.self =
    (let a = c.in_ok-reserve-in-None.ensures.ok in let b = c.len-place.ensures.len in let d = ap length e in let g = c.self.inside.spare.ok in omega arith) in
    rw (new, c.in_ok-reserve-in-None.ensures.items) (pushed_table _ _ _ _ _ _ c.self.invariant c.requires f.1 room)

pub returns-in-Some-clause-ok : goal.returns-in-Some-clause-ok
returns-in-Some-clause-ok c = rw (← c.self.view_is) (found_there c.self.inside.map.entries c.args.link _ c.self.invariant.valid_links c.requires c.in-Some.ensures.index).0

pub returns-in-Some-clause-place : goal.returns-in-Some-clause-place
returns-in-Some-clause-place c = rw (← c.self.view_is) (found_there c.self.inside.map.entries c.args.link _ c.self.invariant.valid_links c.requires c.in-Some.ensures.index).1

pub returns-in_ok-insert-in-None-clause-ok : goal.returns-in_ok-insert-in-None-clause-ok
returns-in_ok-insert-in-None-clause-ok c =
    let f = found_none c.self.inside.map.entries c.args.link c.in-None.ensures.index in
    let new = c.in_ok-insert-in-None.ensures.entries ∙ insert_entry-new same_link c.self.inside.map c.args.link Queued (none_from _ c.in-None.ensures.found) in
    rw (← c.self.view_is) (new ∙ sym f.0)

pub returns-in_ok-insert-in-None-clause-place : goal.returns-in_ok-insert-in-None-clause-place
returns-in_ok-insert-in-None-clause-place c =
    let new = c.in_ok-insert-in-None.ensures.entries ∙ insert_entry-new same_link c.self.inside.map c.args.link Queued (none_from _ c.in-None.ensures.found) in
    rw (new, c.len-place.ensures.len) (link_at_push c.self.inside.map.entries c.args.link Queued)

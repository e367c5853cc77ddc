use Rattle.std.proofs.Common.{◌≡◌, ◌∙◌, List, ap, subst, length, flat_map}
use Rattle.std.specs.Prelude.{IfOk}
use Rattle.rows_core.specs.Rows.{Cells}
use Rattle.symmetric_join.specs.Joins.{met}
use Rattle.symmetric_join.specs.Keys.{Keyed, key_of}
use Rattle.symmetric_join.proofs.Listing.{tried_within, tried_suffice}
use Rattle.symmetric_join.proofs.keyed.KeyedRows.meet_listed.Goals as goal

pub meet_at-requires : goal.meet_at-requires
meet_at-requires c =
    let listed = ap (λ (k : Keyed). k.listed) c.self.view_is in
    let rows = ap (λ (k : Keyed). k.rows) c.self.view_is in
    let full : c.self.inside.listed ≡ length c.self.inside.rows.items = cc (listed, rows, c.in_ok-list_rows.ensures.all) in
    tried_within c.self.inside.vars.items c.self.inside.rows.items c.as_slice.result.now c.self.inside.listed c.self.inside.table c.args.key.now c.as_slice-2.result.now c.self.invariant full c.requires.whole
    (c.as_slice-2.ensures.value ∙ c.in_ok-places.ensures) c.as_slice.ensures.value

pub returns-clause-merges : goal.returns-clause-merges
returns-clause-merges c =
    let listed = ap (λ (k : Keyed). k.listed) c.self.view_is in
    let rows = ap (λ (k : Keyed). k.rows) c.self.view_is in
    let vars = ap (λ (k : Keyed). k.vars) c.self.view_is in
    let full : c.self.inside.listed ≡ length c.self.inside.rows.items = cc (listed, rows, c.in_ok-list_rows.ensures.all) in
    let own : c.args.key.now ≡ key_of c.self.inside.vars.items c.args.row.now = cc (vars, c.requires.own, c.in_ok-list_rows.ensures.vars) in
    let same : c.self.inside.rows.items ≡ c.args.self.now.rows = cc (rows, c.in_ok-list_rows.ensures.rows) in
    let enough = tried_suffice c.args.fed c.self.inside.vars.items c.self.inside.rows.items c.as_slice.result.now c.self.inside.listed c.self.inside.table c.args.row.now c.args.key.now c.as_slice-2.result.now own c.self.invariant full c.requires.whole
    (c.as_slice-2.ensures.value ∙ c.in_ok-places.ensures) c.as_slice.ensures.value in
    subst (λ (l : List Cells). IfOk c.meet_at.result (λ out. out.items ≡ l)) (enough ∙ ap (flat_map (met c.args.fed c.args.row.now)) same) c.meet_at.ensures

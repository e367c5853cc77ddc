use Rattle.std.proofs.Common.{◌+◌, ◌≤◌, Option, length, drop, get_or, refl, sym, ◌∙◌, ap, arith}
use Rattle.std.specs.Option.{option_copied}
use Rattle.rdf_terms.specs.declared.term.Term.{Term}
use Rattle.json_results.specs.Columns.{last_bound, later}
use Rattle.json_results.proofs.InOrder.{bound_step, bound_end}
use Rattle.json_results.proofs.columns.last_bound.Goals as goal

pub loop-i-preserved : goal.loop-i-preserved
loop-i-preserved c =
    let before = option_copied c.loop-i.found in
    let places = c.args.places.now in
    let cells = c.args.cells.now in
    let found = c.later-found.ensures ∙ ap (later before) c.term_at.ensures in
    ap (λ (f : Option Term). last_bound f (drop (c.loop-i.i + 1) places) cells) found
    ∙ (sym (bound_step places c.loop-i.i (get_or places c.loop-i.i 0) 0 before cells c.loop-i-test.true refl) ∙ c.loop-i.invariant)

pub returns : goal.returns
returns c =
    let past : length c.args.places.now ≤ c.loop-i.i = omega arith in
    sym (bound_end c.args.places.now c.loop-i.i (option_copied c.loop-i.found) c.args.cells.now past) ∙ c.loop-i.invariant

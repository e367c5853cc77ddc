use Rattle.std.proofs.Common.{◌∙◌, ap₂, Option, get_or}
use Rattle.rdf_terms.specs.declared.term.Term.{Term}
use Rattle.expr_eval.specs.Order.{term_order}
use Rattle.algebra_core.specs.Order.{directed}
use Rattle.algebra_core.proofs.Comparing.{values_differ, values_tie}
use Rattle.algebra_core.proofs.ordering.compare_values.Goals as goal

pub returns-in_default : goal.returns-in_default
returns-in_default c =
    values_differ c.args.keys.now c.args.a.now c.args.b.now c.loop-i.i c.index-keys-i.result c.compare_directed.result c.loop-i.invariant c.loop-i-test.true
    (c.compare_directed.ensures ∙ ap₂ (λ (x y : Option Term). directed (get_or c.args.keys.now c.loop-i.i c.index-keys-i.result).descending term_order x y) c.cell_at.ensures c.cell_at-in-loop-i.ensures) c.in_default.not-Equal

pub loop-i-preserved : goal.loop-i-preserved
loop-i-preserved c =
    values_tie c.args.keys.now c.args.a.now c.args.b.now c.loop-i.i c.index-keys-i.result c.compare_directed.result c.loop-i.invariant c.loop-i-test.true
    (c.compare_directed.ensures ∙ ap₂ (λ (x y : Option Term). directed (get_or c.args.keys.now c.loop-i.i c.index-keys-i.result).descending term_order x y) c.cell_at.ensures c.cell_at-in-loop-i.ensures) c.in-Equal.is

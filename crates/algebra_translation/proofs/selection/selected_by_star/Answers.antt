use Rattle.algebra_translation.proofs.InScope.{star_more, star_end}
use Rattle.algebra_translation.proofs.selection.selected_by_star.Goals as goal

pub loop-variable-preserved : goal.loop-variable-preserved
loop-variable-preserved c = star_more c.loop-variable.variable c.args.names c.loop-variable.all.items c.add_in_scope.new.all.items _ _ c.args.patterns.now c.loop-variable-test.true c.in_ok-in_scope.ensures c.in_ok-add_in_scope.ensures c.loop-variable.invariant

pub returns : goal.returns
returns c = star_end c.loop-variable.variable c.args.names c.loop-variable.all.items _ c.args.patterns.now c.loop-variable-test.false c.loop-variable.invariant

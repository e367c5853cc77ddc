use Rattle.std.proofs.Common.{◌≤◌, length, sym, ◌∙◌, ap, arith}
use Rattle.json_results.specs.Columns.{columns_of}
use Rattle.json_results.proofs.InOrder.{named_step, named_end}
use Rattle.json_results.proofs.columns.Columns.new.Goals as goal

pub loop-i-preserved : goal.loop-i-preserved
loop-i-preserved c =
    rw (c.in_ok-add_name.ensures) (sym (named_step c.args.names.now c.loop-i.i c.index-names-i.result c.loop-i.columns.items c.loop-i-test.true c.index-names-i.is) ∙ c.loop-i.invariant)

pub invariant_of-result : goal.invariant_of-result
invariant_of-result c =
    let past : length c.args.names.now ≤ c.loop-i.i = omega arith in
    sym (named_end c.args.names.now c.loop-i.i c.loop-i.columns.items past) ∙ (c.loop-i.invariant ∙ ap columns_of (sym c.in_ok-names.ensures))

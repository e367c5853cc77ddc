use Rattle.std.proofs.Common.{◌≤◌, length, sym, arith}
use Rattle.json_results.proofs.InOrder.{after_more, found_at, missing_at, missing_end}
use Rattle.json_results.proofs.columns.find.Goals as goal

pub returns-in-Less-clause-missing : goal.returns-in-Less-clause-missing
returns-in-Less-clause-missing c =
    (omega arith, λ p. missing_at c.args.name.now c.args.columns.now c.loop-i.i c.index-columns-i.result p c.loop-i-test.true c.index-columns-i.is (sym c.in-Less.ensures) c.loop-i.invariant)

pub returns-in-Equal-clause-found : goal.returns-in-Equal-clause-found
returns-in-Equal-clause-found c =
    (c.loop-i-test.true, λ d p. found_at c.args.name.now c.args.columns.now c.loop-i.i c.index-columns-i.result d p c.loop-i-test.true c.index-columns-i.is (sym c.in-Equal.ensures) c.loop-i.invariant)

pub loop-i-preserved : goal.loop-i-preserved
loop-i-preserved c =
    after_more c.args.name.now c.args.columns.now c.loop-i.i c.index-columns-i.result c.loop-i-test.true c.index-columns-i.is (sym c.in-Greater.ensures) c.loop-i.invariant

pub returns-clause-missing : goal.returns-clause-missing
returns-clause-missing c =
    let past : length c.args.columns.now ≤ c.loop-i.i = omega arith in
    (omega arith, λ p. missing_end c.args.name.now c.args.columns.now c.loop-i.i p past c.loop-i.invariant)

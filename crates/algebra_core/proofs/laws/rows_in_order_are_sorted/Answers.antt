use Rattle.algebra_core.proofs.Ordered.{in_order_bag, in_order_sorted}
use Rattle.algebra_core.proofs.Totals.{row_total, row_ties}
use Rattle.algebra_core.specs.Order.{row_cmp}
use Rattle.algebra_core.proofs.laws.rows_in_order_are_sorted.Goals as goal

pub returns-clause-bag : goal.returns-clause-bag
returns-clause-bag c = in_order_bag (row_cmp c.args.query.now) (row_total c.args.query.now) (row_ties c.args.query.now)

pub returns-clause-sorted : goal.returns-clause-sorted
returns-clause-sorted c = in_order_sorted (row_cmp c.args.query.now) (row_total c.args.query.now) (row_ties c.args.query.now)

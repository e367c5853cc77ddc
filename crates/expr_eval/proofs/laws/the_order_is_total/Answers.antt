use Rattle.expr_eval.proofs.OrderLaws.{term_order-total, term_order-ties}
use Rattle.expr_eval.proofs.laws.the_order_is_total.Goals as goal

pub returns-clause-total : goal.returns-clause-total
returns-clause-total c = term_order-total

pub returns-clause-ties : goal.returns-clause-ties
returns-clause-ties c = term_order-ties

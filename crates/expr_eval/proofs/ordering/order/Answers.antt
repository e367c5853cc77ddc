use Rattle.std.proofs.Common.{sym}
use Rattle.expr_eval.proofs.OrderLemmas.{unbound_first, unbound_last}
use Rattle.expr_eval.proofs.ordering.order.Goals as goal

pub returns-in-None-Some : goal.returns-in-None-Some
returns-in-None-Some c = rw (c.in-None-Some.is-0, c.in-None-Some.is-1) (sym (unbound_first c.in-None-Some.field-0-1.now))

pub returns-in-Some-None : goal.returns-in-Some-None
returns-in-Some-None c = rw (c.in-Some-None.is-0, c.in-Some-None.is-1) (sym (unbound_last c.in-Some-None.field-0-0.now))

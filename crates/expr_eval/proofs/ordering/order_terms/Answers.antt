use Rattle.expr_eval.proofs.OrderLemmas.{blank_literal, literal_blank, iri_literal, literal_iri}
use Rattle.expr_eval.proofs.ordering.order_terms.Goals as goal

pub returns-in-Blank-default-2 : goal.returns-in-Blank-default-2
returns-in-Blank-default-2 c = blank_literal c.args.a.now c.args.b.now _ _ _ _ _ c.in-Blank-default.is-0 c.in-Blank-default.is-1

pub returns-in-Iri-default : goal.returns-in-Iri-default
returns-in-Iri-default c = iri_literal c.args.a.now c.args.b.now _ _ _ _ c.in-Iri-default.is-0 c.in-Iri-default.is-1

pub returns-in_default-Iri : goal.returns-in_default-Iri
returns-in_default-Iri c = literal_iri c.args.a.now c.args.b.now _ _ _ _ c.in_default-Iri.is-0 c.in_default-Iri.is-1

pub returns-in_default-Blank-2 : goal.returns-in_default-Blank-2
returns-in_default-Blank-2 c = literal_blank c.args.a.now c.args.b.now _ _ _ _ _ c.in_default-Blank.is-0 c.in_default-Blank.is-1

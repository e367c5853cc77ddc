-- The value of an expression, from the answer of its evaluation.
use Rattle.std.proofs.Common.{◌≡◌, Option, Some, None, refl, ap, ◌∙◌}
use Rattle.rdf_terms.specs.declared.term.Term.{Term}
use Rattle.expr_eval.specs.declared.evaluation.Evaluated.{Evaluated}
use Rattle.expr_eval.specs.declared.evaluation.Evaluated.TheVariants.{Value, TypeError}
use Rattle.expr_eval.specs.Views.{evaluated}

-- the term of an answer, if it is one
abbrev answer_term : Evaluated → Option Term
answer_term (Value t) = Some t
answer_term TypeError = None

answered : (v : Option Term) → answer_term (evaluated v) ≡ v
answered None = refl
answered (Some t) = refl

pub value_given : (v : Option Term) (t : Term) → Value t ≡ evaluated v → Some t ≡ v
value_given v t e = ap answer_term e ∙ answered v

pub error_given : (v : Option Term) → TypeError ≡ evaluated v → None ≡ v
error_given v e = ap answer_term e ∙ answered v

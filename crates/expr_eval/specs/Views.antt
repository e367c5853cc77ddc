-- Values on the way to a term.
use Rattle.std.specs.Prelude.{Option, Some, None}
use Rattle.rdf_terms.specs.declared.term.Term.{Term}
use Rattle.expr_eval.specs.declared.operand.Operand.{Operand}
use Rattle.expr_eval.specs.declared.operand.Operand.TheVariants.{Lent, Made}
use Rattle.expr_eval.specs.declared.operand.Held.{Held}
use Rattle.expr_eval.specs.declared.operand.Held.TheVariants.{Truth, Whole}
use Rattle.expr_eval.specs.declared.evaluation.Evaluated.{Evaluated}
use Rattle.expr_eval.specs.declared.evaluation.Evaluated.TheVariants.{Value, TypeError}
use Rattle.expr_eval.specs.Value.{boolean_term}

-- the term of an operand, wherever it stands
abbrev pub operand_term : Operand → Term
operand_term (Lent term) = term.now
operand_term (Made term) = term

-- the term that a value is, be it made yet or not
abbrev pub held_term : Held → Term
held_term (Truth truth) = boolean_term truth
held_term (Whole operand) = operand_term operand

-- the same where there is one
abbrev pub held_value : Option Held → Option Term
held_value None = None
held_value (Some held) = Some (held_term held)

-- the answer of an evaluation
abbrev pub evaluated : Option Term → Evaluated
evaluated None = TypeError
evaluated (Some term) = Value term

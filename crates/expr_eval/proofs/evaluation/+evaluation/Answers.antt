use Rattle.std.proofs.Common.{◌≡◌, ◌∙◌, ◌<◌, Bool, List, length, get_or, map, Option, Some, IfOk, ap, sym, subst}
use Rattle.std.specs.Prelude.{fold}
use Rattle.value_core.specs.declared.numbers.Number.{Number}
use Rattle.rdf_terms.specs.declared.term.Term.{Term}
use Rattle.expr_eval.specs.declared.expr.Expr.{Expr}
use Rattle.expr_eval.specs.declared.expr.Sign.{Sign}
use Rattle.expr_eval.specs.Views.{held_value}
use Rattle.expr_eval.specs.Value.{value_of, truth_of, number_of_value, of_truth, of_number, with_operand}
use Rattle.expr_eval.proofs.PartLemmas.{any_from-all, all_from-all, any_past_false, any_past_error, all_past_true, all_past_error}
use Rattle.expr_eval.proofs.ValueLemmas.{value_of-Or, value_of-And, value_of-Sum}
use Rattle.expr_eval.proofs.evaluation.+evaluation.Goals as goal
use Rattle.expr_eval.proofs.evaluation.+evaluation.Goals.{any_of-in-Some-false, any_of-in-None, all_of-in-Some-true, all_of-in-None}

pub any_of-loop-part-init : goal.any_of-loop-part-init
any_of-loop-part-init g t c = any_from-all (map (λ part. truth_of (value_of part (g.E.Env.bindings c.args.env.now))) c.args.parts.now)

pub all_of-loop-part-init : goal.all_of-loop-part-init
all_of-loop-part-init g t c = all_from-all (map (λ part. truth_of (value_of part (g.E.Env.bindings c.args.env.now))) c.args.parts.now)

pub any_of-loop-part-preserved : goal.any_of-loop-part-preserved
any_of-loop-part-preserved g t c =
    let f : Expr → Option Bool = λ part. truth_of (value_of part (g.E.Env.bindings c.args.env.now)) in
    let parts : List Expr = c.args.parts.now in
    let x = c.part-item.result in
    let within : c.loop-part.part-index < length parts = rw (← c.as_slice-part-items.ensures) c.loop-part-test.true in
    let here : x ≡ get_or parts c.loop-part.part-index x = rw (← c.as_slice-part-items.ensures) c.part-item.is in
    let truth : f x ≡ c.truth_of.result = ap truth_of (sym c.in_ok-value_of.ensures) ∙ sym c.truth_of.ensures in
    elim c.match-truth_of.branch [
      | any_of-in-Some-false w ↦ any_past_false f parts c.loop-part.part-index x c.loop-part.sound c.match-truth_of.sound _ within here (truth ∙ w.in-Some-false.is ∙ ap Some w.in-Some-false.field-0-test) w.sound-is c.loop-part.invariant
      | any_of-in-None w ↦ any_past_error f parts c.loop-part.part-index x c.loop-part.sound c.match-truth_of.sound _ within here (truth ∙ w.in-None.is) w.sound-is c.loop-part.invariant
    ]

pub all_of-loop-part-preserved : goal.all_of-loop-part-preserved
all_of-loop-part-preserved g t c =
    let f : Expr → Option Bool = λ part. truth_of (value_of part (g.E.Env.bindings c.args.env.now)) in
    let parts : List Expr = c.args.parts.now in
    let x = c.part-item.result in
    let within : c.loop-part.part-index < length parts = rw (← c.as_slice-part-items.ensures) c.loop-part-test.true in
    let here : x ≡ get_or parts c.loop-part.part-index x = rw (← c.as_slice-part-items.ensures) c.part-item.is in
    let truth : f x ≡ c.truth_of.result = ap truth_of (sym c.in_ok-value_of.ensures) ∙ sym c.truth_of.ensures in
    elim c.match-truth_of.branch [
      | all_of-in-Some-true w ↦ all_past_true f parts c.loop-part.part-index x c.loop-part.sound c.match-truth_of.sound _ within here (truth ∙ w.in-Some-true.is ∙ ap Some w.in-Some-true.field-0-test) w.sound-is c.loop-part.invariant
      | all_of-in-None w ↦ all_past_error f parts c.loop-part.part-index x c.loop-part.sound c.match-truth_of.sound _ within here (truth ∙ w.in-None.is) w.sound-is c.loop-part.invariant
    ]

pub value_of-returns-in_ok-any_of-in-Or : goal.value_of-returns-in_ok-any_of-in-Or
value_of-returns-in_ok-any_of-in-Or g t c =
    let env = g.E.Env.bindings c.args.env.now in
    c.from_truth.ensures ∙ ap of_truth c.in_ok-any_of-in-Or.ensures ∙ sym (value_of-Or c.in-Or.parts env) ∙ ap (λ (e : Expr). value_of e env) (sym c.in-Or.is)

pub value_of-returns-in_ok-all_of-in-And : goal.value_of-returns-in_ok-all_of-in-And
value_of-returns-in_ok-all_of-in-And g t c =
    let env = g.E.Env.bindings c.args.env.now in
    c.from_truth-in-And.ensures ∙ ap of_truth c.in_ok-all_of-in-And.ensures ∙ sym (value_of-And c.in-And.parts env) ∙ ap (λ (e : Expr). value_of e env) (sym c.in-And.is)

pub value_of-returns-in_ok-sum_of-in-Sum : goal.value_of-returns-in_ok-sum_of-in-Sum
value_of-returns-in_ok-sum_of-in-Sum g t c =
    let env = g.E.Env.bindings c.args.env.now in
    let first : c.number_of-first.result ≡ number_of_value (value_of c.in-Sum.first env) =
    c.number_of-first.ensures ∙ ap number_of_value c.in_ok-value_of-in-Sum.ensures ∙ ap (λ (e : Expr). number_of_value (value_of e env)) c.get-in-Sum.ensures in
    let rest : List (Sign × Option Number) = map (λ part. (part.0, number_of_value (value_of part.1 env))) c.in-Sum.rest in
    let same : of_number c.in_ok-sum_of-in-Sum.field-0 ≡ value_of c.args.expr.now env =
    ap of_number (c.in_ok-sum_of-in-Sum.ensures ∙ ap (λ (n : Option Number). fold with_operand n rest) first)
    ∙ sym (value_of-Sum c.in-Sum.first c.in-Sum.rest env) ∙ ap (λ (e : Expr). value_of e env) (sym c.in-Sum.is) in
    subst (λ (x : Option Term). IfOk c.from_number.result (λ v. held_value v ≡ x)) same c.from_number.ensures

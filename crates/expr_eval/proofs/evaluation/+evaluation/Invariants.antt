use Rattle.std.proofs.Common.{◌≡◌, map, drop, take}
use Rattle.std.specs.Prelude.{fold}
use Rattle.expr_eval.specs.Value.{value_of, truth_of, number_of_value, any_of, all_of, with_operand}
use Rattle.expr_eval.proofs.PartLemmas.{any_from, all_from}
use Rattle.expr_eval.proofs.evaluation.+evaluation.Given as goal

abbrev pub invariant-any_of-loop-part : goal.invariant-any_of-loop-part
invariant-any_of-loop-part g l =
    any_from l.sound (map (λ part. truth_of (value_of part (g.E.Env.bindings l.env))) (drop l.part-index l.parts))
    ≡ any_of (map (λ part. truth_of (value_of part (g.E.Env.bindings l.env))) l.parts)

abbrev pub invariant-all_of-loop-part : goal.invariant-all_of-loop-part
invariant-all_of-loop-part g l =
    all_from l.sound (map (λ part. truth_of (value_of part (g.E.Env.bindings l.env))) (drop l.part-index l.parts))
    ≡ all_of (map (λ part. truth_of (value_of part (g.E.Env.bindings l.env))) l.parts)

abbrev pub invariant-sum_of-loop-operand : goal.invariant-sum_of-loop-operand
invariant-sum_of-loop-operand g l =
    l.total ≡ fold with_operand l.fn.first (map (λ part. (part.0, number_of_value (value_of part.1 (g.E.Env.bindings l.env)))) (take l.operand-index l.rest))

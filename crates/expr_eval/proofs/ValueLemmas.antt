-- The value of an expression that has a list of parts.
use Rattle.std.proofs.Common.{rules, ◌≡◌, ◌∙◌, ap, Bool, map, List, Option}
use Rattle.std.specs.Prelude.{fold}
use Rattle.std.proofs.lemmas.Simd.{map-map}
use Rattle.value_core.specs.declared.numbers.Number.{Number}
use Rattle.rdf_terms.specs.declared.term.Term.{Term}
use Rattle.expr_eval.specs.declared.expr.Sign.{Sign}
use Rattle.expr_eval.specs.declared.expr.Expr.{Expr, Or, And, Sum, the_lemmas}
use Rattle.expr_eval.specs.declared.expr.Expr.TheOpen.{Expr-F}
use Rattle.expr_eval.specs.Value.{Bindings, value_of, value_step, truth_of, number_of_value, any_of, all_of, with_operand, of_truth, of_number}

pub value_of-Or : (parts : List Expr) (env : Bindings) → value_of (Or parts) env ≡ of_truth (any_of (map (λ part. truth_of (value_of part env)) parts))
value_of-Or parts env =
    let opened : value_of (Or parts) ≡ value_step (Expr-F.Or (map value_of parts)) = search (rules, the_lemmas) in
    let P : List (Option Bool) → Option Term = λ ts. of_truth (any_of ts) in
    ap (λ (f : Bindings → Option Term). f env) opened ∙ ap P (map-map (λ (part : Bindings → Option Term). truth_of (part env)) value_of parts)

pub value_of-And : (parts : List Expr) (env : Bindings) → value_of (And parts) env ≡ of_truth (all_of (map (λ part. truth_of (value_of part env)) parts))
value_of-And parts env =
    let opened : value_of (And parts) ≡ value_step (Expr-F.And (map value_of parts)) = search (rules, the_lemmas) in
    let P : List (Option Bool) → Option Term = λ ts. of_truth (all_of ts) in
    ap (λ (f : Bindings → Option Term). f env) opened ∙ ap P (map-map (λ (part : Bindings → Option Term). truth_of (part env)) value_of parts)

pub value_of-Sum : (first : Expr) (rest : List (Sign × Expr)) (env : Bindings) → value_of (Sum first rest) env ≡ of_number (fold with_operand (number_of_value (value_of first env)) (map (λ part. (part.0, number_of_value (value_of part.1 env))) rest))
value_of-Sum first rest env =
    let under : Sign × Expr → Sign × (Bindings → Option Term) = λ p. (p.0, value_of p.1) in
    let opened : value_of (Sum first rest) ≡ value_step (Expr-F.Sum (value_of first) (map under rest)) = search (rules, the_lemmas) in
    let P : List (Sign × Option Number) → Option Term = λ xs. of_number (fold with_operand (number_of_value (value_of first env)) xs) in
    ap (λ (f : Bindings → Option Term). f env) opened ∙ ap P (map-map (λ (part : Sign × (Bindings → Option Term)). (part.0, number_of_value (part.1 env))) under rest)

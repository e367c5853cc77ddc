-- What an expression comes to (SPARQL 1.1 Query Language, section 17; docs/FORMATS.md, "Values"). None is the type error.
use Rattle.std.specs.Prelude.{ℕ, Bool, true, false, not, if◌then◌else◌, List, [], map, fold, Option, Some, None, option_map, is_some, is_none, unwrap_or, pos, codes}
use Rattle.std.specs.List.{list_any}
use Rattle.std.specs.Option.{option_and_then}
use Rattle.value_core.specs.declared.numbers.Number.{Number}
use Rattle.value_core.specs.Numbers.{sum_of, difference_of}
use Rattle.rdf_terms.specs.declared.term.Term.{Term}
use Rattle.rdf_terms.specs.declared.term.Term.TheVariants.{Blank, Iri, Literal}
use Rattle.rdf_terms.specs.Same.{same_term}
use Rattle.expr_eval.specs.Names.{string_type, boolean_type}
use Rattle.expr_eval.specs.Truth.{number_in, truth_of_term, both, compared}
use Rattle.expr_eval.specs.Written.{number_term}
use Rattle.expr_eval.specs.declared.expr.Function.{Function}
use Rattle.expr_eval.specs.declared.expr.Function.TheVariants.{Str, Lang, Datatype, IsIri, IsBlank, IsLiteral}
use Rattle.expr_eval.specs.declared.expr.Sign.{Sign}
use Rattle.expr_eval.specs.declared.expr.Sign.TheVariants.{Plus, Minus}
use Rattle.expr_eval.specs.declared.expr.Expr.{Expr, fold-Expr}
use Rattle.expr_eval.specs.declared.expr.Expr.TheOpen.{Expr-F}

-- the term of each variable that is bound
abbrev pub Bindings : Type 0
Bindings = ℕ → Option Term

-- a truth value as a term
abbrev pub boolean_term : Bool → Term
boolean_term true = Literal boolean_type None (codes "true")
boolean_term false = Literal boolean_type None (codes "false")

-- a text as a simple literal
abbrev pub string_term : List ℕ → Term
string_term text = Literal string_type None text

-- the truth of what an operand comes to
abbrev pub truth_of : Option Term → Option Bool
truth_of value = option_and_then truth_of_term value

abbrev pub is_true : Option Bool → Bool
is_true None = false
is_true (Some b) = b

abbrev pub is_false : Option Bool → Bool
is_false None = false
is_false (Some b) = not b

-- true where one is true, else the error where one is the error, else false
abbrev pub any_of : List (Option Bool) → Option Bool
any_of truths = if list_any is_true truths then Some true else (if list_any is_none truths then None else Some false)

-- false where one is false, else the error where one is the error, else true
abbrev pub all_of : List (Option Bool) → Option Bool
all_of truths = if list_any is_false truths then Some false else (if list_any is_none truths then None else Some true)

-- one number added or taken away
abbrev pub signed_sum : Sign → Number → Number → Option Number
signed_sum Plus a b = sum_of a b
signed_sum Minus a b = difference_of a b

-- one operand more, where both have a value
abbrev pub with_operand : Option Number → Sign × Option Number → Option Number
with_operand total operand = option_and_then (λ a. option_and_then (λ b. signed_sum operand.0 a b) operand.1) total

abbrev pub zero_number : Number
zero_number = record { scaled = pos 0; whole = true }

abbrev pub number_of_value : Option Term → Option Number
number_of_value value = option_and_then number_in value

-- a truth value or a number as a term, where there is one
abbrev pub of_truth : Option Bool → Option Term
of_truth None = None
of_truth (Some truth) = Some (boolean_term truth)

abbrev pub of_number : Option Number → Option Term
of_number None = None
of_number (Some number) = Some (number_term number)

-- the functions of one term
abbrev pub called : Function → Term → Option Term
called Str (Blank doc n) = None
called Str (Iri text) = Some (string_term text)
called Str (Literal datatype tag lexical) = Some (string_term lexical)
called Lang (Blank doc n) = None
called Lang (Iri text) = None
called Lang (Literal datatype tag lexical) = Some (string_term (unwrap_or tag []))
called Datatype (Blank doc n) = None
called Datatype (Iri text) = None
called Datatype (Literal datatype tag lexical) = Some (Iri datatype)
called IsIri (Blank doc n) = Some (boolean_term false)
called IsIri (Iri text) = Some (boolean_term true)
called IsIri (Literal datatype tag lexical) = Some (boolean_term false)
called IsBlank (Blank doc n) = Some (boolean_term true)
called IsBlank (Iri text) = Some (boolean_term false)
called IsBlank (Literal datatype tag lexical) = Some (boolean_term false)
called IsLiteral (Blank doc n) = Some (boolean_term false)
called IsLiteral (Iri text) = Some (boolean_term false)
called IsLiteral (Literal datatype tag lexical) = Some (boolean_term true)

-- what two operands come to, where both have a value
abbrev pub compared_values : {Y : Type 0} → (Term → Term → Option Y) → Option Term → Option Term → Option Y
compared_values f a b = option_and_then (λ x. option_and_then (λ y. f x y) b) a

-- one level of an expression, whose parts are already functions of the bindings
abbrev pub value_step : Expr-F (Bindings → Option Term) → Bindings → Option Term
value_step (Expr-F.Var var) env = env var
value_step (Expr-F.Constant term) env = Some term
value_step (Expr-F.Or parts) env = of_truth (any_of (map (λ part. truth_of (part env)) parts))
value_step (Expr-F.And parts) env = of_truth (all_of (map (λ part. truth_of (part env)) parts))
value_step (Expr-F.Not part) env = of_truth (option_map not (truth_of (part env)))
value_step (Expr-F.Compare op left right) env = of_truth (compared_values (compared op) (left env) (right env))
value_step (Expr-F.Sum first rest) env =
    of_number (fold with_operand (number_of_value (first env)) (map (λ part. (part.0, number_of_value (part.1 env))) rest))
value_step (Expr-F.Signed sign part) env = of_number (with_operand (Some zero_number) (sign, number_of_value (part env)))
value_step (Expr-F.Bound var) env = Some (boolean_term (is_some (env var)))
value_step (Expr-F.Call function part) env = option_and_then (called function) (part env)
value_step (Expr-F.SameTerm left right) env = of_truth (both same_term (left env) (right env))

-- the value of an expression under bindings
abbrev pub value_of : Expr → Bindings → Option Term
value_of = fold-Expr (Bindings → Option Term) value_step

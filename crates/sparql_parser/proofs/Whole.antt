-- The grammar's parts, and that it gives each list of tokens one answer.
use Rattle.std.proofs.Common.{◌≡◌, ℕ, ◌≤◌, List, arith, rules, Bool, true, false}
use Rattle.grammar_model.specs.Parsers.{Fine, Takes, Reads}
use Rattle.grammar_model.proofs.Reading.{one, opened, parse_reads}
use Rattle.rows_core.specs.declared.pattern.Spot.{Spot}
use Rattle.rows_core.specs.declared.pattern.TriplePattern.{TriplePattern}
use Rattle.expr_eval.specs.declared.expr.Expr.{Expr}
use Rattle.expr_eval.specs.declared.expr.Sign.{Sign}
use Rattle.algebra_translation.specs.Translation.{PartialGroup}
use Rattle.sparql_resolve.specs.declared.fault.Fault.{Fault}
use Rattle.sparql_resolve.specs.declared.kind.Kind.{Kind}
use Rattle.sparql_resolve.specs.declared.kind.Kind.TheVariants as kinds
use Rattle.sparql_resolve.specs.declared.kind.Token.{Token}
use Rattle.sparql_parser.specs.declared.tokens.Terminal.TheVariants as terminals
use Rattle.sparql_parser.specs.Grammar.{Nonterminal, Value, G, E, body, rank, takes, reads, within, sparql, kind_of, need_by, choose, is_terminal, query_by, select_by, variables_by, condition_by, begins_condition, element_by, constraint_by, begins_verb, verb_by, begins_term, signed_by, term_by, datatype_by, literal_by, object_by, subject_by, relational_by, additive_by, more_operands_by, unary_by, bound_by, primary_by}
use Rattle.sparql_parser.specs.Grammar.{QueryUnit, SelectQuery, SelectBody, SelectClause, Variables, SolutionModifier, OrderClause, MoreConditions, OrderCondition, GroupGraphPattern, GroupGraphPatternSub, TriplesOrElements, Elements, AfterElement, Filter, OptionalGraphPattern, GroupElement, GroupOrUnionGraphPattern, MoreGroups, Constraint, TriplesBlock, MoreTriples, TriplesSameSubject, BlankSubject, PropertyList, MoreProperties, VerbObjects, ObjectList, MoreObjects, Object, BlankObject, VarOrTerm, SignedNumber, RdfLiteral, Expression, OrOperands, MoreOr, ConditionalAnd, AndOperands, MoreAnd, Relational, Additive, Operands, MoreOperands, Unary, Primary, Bracketed, BoundVariable, TermPair}

small : (q : Nonterminal) → rank q ≤ 8
small QueryUnit = omega arith
small q = omega arith

module _ (stop : Fault) where
  abbrev F : (m : Nonterminal) → ℕ → G (Value m) → Type 0
  F m r p = Fine (sparql stop) rank takes 8 m r p

  needed : (m : Nonterminal) (r : ℕ) (b : Bool) (p : G (Value m)) → F m 8 p → F m r (need_by b p)
  needed m r true p f = f
  needed m r false p f = tt

  chosen : (m : Nonterminal) (r : ℕ) (b : Bool) (p q : G (Value m)) → F m r p → F m r q → F m r (choose b p q)
  chosen m r true p q f g = f
  chosen m r false p q f g = g

  query_fine : (k : Kind) → F QueryUnit 0 (query_by k)
  query_fine kinds.Comma = search (rules, needed, chosen)
  query_fine k = search (rules, needed, chosen)

  select_fine : (k : Kind) → F SelectClause 1 (select_by k)
  select_fine kinds.Comma = search (rules, needed, chosen)
  select_fine k = search (rules, needed, chosen)

  variables_fine : (before : List ℕ) (k : Kind) → F (Variables before) 0 (variables_by before k)
  variables_fine before kinds.Comma = search (rules, needed, chosen)
  variables_fine before k = search (rules, needed, chosen)

  condition_fine : (k : Kind) → F OrderCondition 1 (condition_by k)
  condition_fine kinds.Comma = search (rules, needed, chosen)
  condition_fine k = search (rules, needed, chosen)

  element_fine : (s : PartialGroup) (k : Kind) → F (Elements s) 0 (element_by s k)
  element_fine s kinds.Comma = search (rules, needed, chosen)
  element_fine s k = search (rules, needed, chosen)

  constraint_fine : (k : Kind) → F Constraint 2 (constraint_by k)
  constraint_fine kinds.Comma = search (rules, needed, chosen)
  constraint_fine k = search (rules, needed, chosen)

  verb_fine : (s : Spot) (before : List TriplePattern) (k : Kind) → F (VerbObjects s before) 0 (verb_by s before k)
  verb_fine s before kinds.Comma = search (rules, needed, chosen)
  verb_fine s before k = search (rules, needed, chosen)

  signed_fine : (sign : Sign) (k : Kind) → F (SignedNumber sign) 0 (signed_by sign k)
  signed_fine sign kinds.Comma = search (rules, needed, chosen)
  signed_fine sign k = search (rules, needed, chosen)

  term_fine : (k : Kind) → F VarOrTerm 0 (term_by k)
  term_fine kinds.Comma = search (rules, needed, chosen)
  term_fine k = search (rules, needed, chosen)

  datatype_fine : (text : List ℕ) (k : Kind) → F (RdfLiteral text) 8 (datatype_by text k)
  datatype_fine text kinds.Comma = search (rules, needed, chosen)
  datatype_fine text k = search (rules, needed, chosen)

  literal_fine : (text : List ℕ) (k : Kind) → F (RdfLiteral text) 0 (literal_by text k)
  literal_fine text kinds.Comma = search (rules, needed, chosen, datatype_fine)
  literal_fine text k = search (rules, needed, chosen, datatype_fine)

  object_fine : (before : List TriplePattern) (k : Kind) → F (Object before) 1 (object_by before k)
  object_fine before kinds.Comma = search (rules, needed, chosen)
  object_fine before k = search (rules, needed, chosen)

  subject_fine : (before : List TriplePattern) (k : Kind) → F (TriplesSameSubject before) 2 (subject_by before k)
  subject_fine before kinds.Comma = search (rules, needed, chosen)
  subject_fine before k = search (rules, needed, chosen)

  relational_fine : (e : Expr) (k : Kind) → F Relational 4 (relational_by e k)
  relational_fine e kinds.Comma = search (rules, needed, chosen)
  relational_fine e k = search (rules, needed, chosen)

  additive_fine : (e : Expr) (k : Kind) → F Additive 3 (additive_by e k)
  additive_fine e kinds.Comma = search (rules, needed, chosen)
  additive_fine e k = search (rules, needed, chosen)

  more_operands_fine : (before : List (Sign × Expr)) (k : Kind) → F (MoreOperands before) 0 (more_operands_by before k)
  more_operands_fine before kinds.Comma = search (rules, needed, chosen)
  more_operands_fine before k = search (rules, needed, chosen)

  unary_fine : (k : Kind) → F Unary 2 (unary_by k)
  unary_fine kinds.Comma = search (rules, needed, chosen)
  unary_fine k = search (rules, needed, chosen)

  bound_fine : (k : Kind) → F BoundVariable 8 (bound_by k)
  bound_fine kinds.Comma = search (rules, needed, chosen)
  bound_fine k = search (rules, needed, chosen)

  primary_fine : (k : Kind) → F Primary 1 (primary_by k)
  primary_fine kinds.Comma = search (rules, needed, chosen)
  primary_fine k = search (rules, needed, chosen)

  condition_takes : (k : Kind) → Takes (sparql stop) rank takes 8 OrderCondition (condition_by k)
  condition_takes kinds.Comma = tt
  condition_takes k = tt

  bracket_takes : (b : Bool) (p : G Expr) → Takes (sparql stop) rank takes 8 Bracketed (need_by b p)
  bracket_takes true p = tt
  bracket_takes false p = tt

  all_take : (q : Nonterminal) → takes q ≡ true → Takes (sparql stop) rank takes 8 q (body q)
  all_take OrderCondition e = λ x. condition_takes (kind_of x)
  all_take Bracketed e = λ x. bracket_takes _ _
  all_take q e = absurd cc

  fine : (q : Nonterminal) → F q (rank q) (body q)
  fine QueryUnit = λ x. query_fine (kind_of x)
  fine SelectQuery = λ x. chosen SelectQuery 3 (is_terminal terminals.Distinct (kind_of x)) _ _ (search rules) (search rules)
  fine (SelectBody distinct) = (omega arith, λ select x. chosen (SelectBody distinct) 2 (is_terminal terminals.Where (kind_of x)) _ _ (search rules) (search rules))
  fine SelectClause = λ x. select_fine (kind_of x)
  fine (Variables before) = λ x. variables_fine before (kind_of x)
  fine SolutionModifier = λ x. chosen SolutionModifier 0 (is_terminal terminals.Order (kind_of x)) _ _ (λ y. needed SolutionModifier 8 (is_terminal terminals.By (kind_of y)) _ (omega arith, λ keys z. needed SolutionModifier 8 (is_terminal terminals.End (kind_of z)) _ tt)) (λ y. needed SolutionModifier 0 (is_terminal terminals.End (kind_of y)) _ tt)
  fine OrderClause = search rules
  fine (MoreConditions before) = λ x. chosen (MoreConditions before) 2 (begins_condition (kind_of x)) _ _ (search rules) tt
  fine OrderCondition = λ x. condition_fine (kind_of x)
  fine GroupGraphPattern = λ x. needed GroupGraphPattern 0 (is_terminal terminals.OpenBrace (kind_of x)) _ (search rules)
  fine GroupGraphPatternSub = search rules
  fine (TriplesOrElements s) = λ x. chosen (TriplesOrElements s) 4 (begins_term (kind_of x)) _ _ (search rules) (search rules)
  fine (Elements s) = λ x. element_fine s (kind_of x)
  fine (AfterElement s) = λ x. chosen (AfterElement s) 5 (is_terminal terminals.Dot (kind_of x)) _ _ (search rules) (search rules)
  fine (Filter s) = search rules
  fine (OptionalGraphPattern s) = search rules
  fine (GroupElement s) = search rules
  fine GroupOrUnionGraphPattern = search rules
  fine (MoreGroups left) = λ x. chosen (MoreGroups left) 0 (is_terminal terminals.Union (kind_of x)) _ _ (search rules) tt
  fine Constraint = λ x. constraint_fine (kind_of x)
  fine (TriplesBlock before) = search rules
  fine (MoreTriples before) = λ x. chosen (MoreTriples before) 0 (is_terminal terminals.Dot (kind_of x)) _ _ (λ y. chosen (MoreTriples before) 8 (begins_term (kind_of y)) _ _ (search rules) tt) tt
  fine (TriplesSameSubject before) = λ x. subject_fine before (kind_of x)
  fine (BlankSubject n before) = λ x. chosen (BlankSubject n before) 2 (is_terminal terminals.ShutSquare (kind_of x)) _ _ (search rules) (omega arith, λ v y. needed (BlankSubject n before) 2 (is_terminal terminals.ShutSquare (kind_of y)) _ (λ z. chosen (BlankSubject n before) 8 (begins_verb (kind_of z)) _ _ (search rules) tt))
  fine (PropertyList s before) = search rules
  fine (MoreProperties s before) = λ x. chosen (MoreProperties s before) 0 (is_terminal terminals.Semicolon (kind_of x)) _ _ (λ y. chosen (MoreProperties s before) 8 (begins_verb (kind_of y)) _ _ (search rules) (search rules)) tt
  fine (VerbObjects s before) = λ x. verb_fine s before (kind_of x)
  fine (ObjectList s p before) = search rules
  fine (MoreObjects s p before) = λ x. chosen (MoreObjects s p before) 0 (is_terminal terminals.Comma (kind_of x)) _ _ (search rules) tt
  fine (Object before) = λ x. object_fine before (kind_of x)
  fine (BlankObject n before) = λ x. chosen (BlankObject n before) 2 (is_terminal terminals.ShutSquare (kind_of x)) _ _ tt (omega arith, λ v y. needed (BlankObject n before) 2 (is_terminal terminals.ShutSquare (kind_of y)) _ tt)
  fine VarOrTerm = λ x. term_fine (kind_of x)
  fine (SignedNumber sign) = λ x. signed_fine sign (kind_of x)
  fine (RdfLiteral text) = λ x. literal_fine text (kind_of x)
  fine Expression = (omega arith, λ e x. chosen Expression 6 (is_terminal terminals.Or (kind_of x)) _ _ (search rules) tt)
  fine (OrOperands first) = search rules
  fine (AndOperands first) = search rules
  fine (Operands sign) = search rules
  fine (MoreOr before) = λ x. chosen (MoreOr before) 0 (is_terminal terminals.Or (kind_of x)) _ _ (search rules) tt
  fine ConditionalAnd = (omega arith, λ e x. chosen ConditionalAnd 5 (is_terminal terminals.And (kind_of x)) _ _ (search rules) tt)
  fine (MoreAnd before) = λ x. chosen (MoreAnd before) 0 (is_terminal terminals.And (kind_of x)) _ _ (search rules) tt
  fine Relational = (omega arith, λ e x. relational_fine e (kind_of x))
  fine Additive = (omega arith, λ e x. additive_fine e (kind_of x))
  fine (MoreOperands before) = λ x. more_operands_fine before (kind_of x)
  fine Unary = λ x. unary_fine (kind_of x)
  fine Primary = λ x. primary_fine (kind_of x)
  fine Bracketed = λ x. needed Bracketed 0 (is_terminal terminals.OpenParen (kind_of x)) _ (omega arith, λ e y. needed Bracketed 8 (is_terminal terminals.ShutParen (kind_of y)) _ tt)
  fine BoundVariable = λ x. needed BoundVariable 0 (is_terminal terminals.OpenParen (kind_of x)) _ (λ y. bound_fine (kind_of y))
  fine TermPair = λ x. needed TermPair 0 (is_terminal terminals.OpenParen (kind_of x)) _ (omega arith, λ a y. needed TermPair 8 (is_terminal terminals.Comma (kind_of y)) _ (omega arith, λ b z. needed TermPair 8 (is_terminal terminals.ShutParen (kind_of z)) _ tt))

  -- a part is what its body says
  pub part_is : (q : Nonterminal) (ts : List Token) → reads stop q ts ≡ within stop q ts
  unfolding reads
  part_is q ts = opened (sparql stop) rank takes 8 all_take small fine q ts

  -- the grammar itself gives each list of tokens one answer, the function's
  pub reads_it : (ts : List Token) → Reads (sparql stop) QueryUnit (body QueryUnit) ts (reads stop QueryUnit ts)
  unfolding reads
  reads_it ts = parse_reads (sparql stop) rank takes 8 all_take small fine QueryUnit ts

  pub only_one : (ts : List Token) (a b : E QueryUnit) → Reads (sparql stop) QueryUnit (body QueryUnit) ts a → Reads (sparql stop) QueryUnit (body QueryUnit) ts b → a ≡ b
  only_one ts a b r s = one (sparql stop) QueryUnit (body QueryUnit) ts a b r s

-- The grammar of the profile, part by part, in the names of SPARQL 1.1, section 19.8 (docs/FORMATS.md, "Queries").
-- A part that repeats something takes what stands before it, so its value is that of all.
use Rattle.std.specs.Prelude.{ℕ, List, [], ◌∷◌, ◌++◌, Bool, true, false, Option, Some, None}
use Rattle.grammar_model.specs.Parsers.{Parser, Return, Fail, Advance, Peek, Call, Outcome, Grammar, parse, go}
use Rattle.rdf_terms.specs.declared.term.Term.{Term}
use Rattle.rdf_terms.specs.declared.term.Term.TheVariants.{Iri}
use Rattle.rows_core.specs.declared.pattern.Spot.{Spot}
use Rattle.rows_core.specs.declared.pattern.Spot.TheVariants as spots
use Rattle.rows_core.specs.declared.pattern.TriplePattern.{TriplePattern}
use Rattle.expr_eval.specs.declared.expr.Sign.{Sign}
use Rattle.expr_eval.specs.declared.expr.Sign.TheVariants as signs
use Rattle.expr_eval.specs.declared.expr.Expr.{Expr, Constant, Or, And, Compare, Sum, Signed, Bound, SameTerm}
use Rattle.expr_eval.specs.declared.expr.Expr.{Var as Variable, Not as Negation, Call as Application}
use Rattle.algebra_core.specs.declared.algebra.Algebra.{Algebra, Union}
use Rattle.algebra_core.specs.declared.query.Key.{Key}
use Rattle.algebra_translation.specs.Translation.{type_iri, plain_text, tagged_text, typed_text, number, signed_number, boolean, PartialGroup, empty_group, Grouped, finish_group, filtered, with_filter, with_triples, with_group, with_option}
use Rattle.sparql_resolve.specs.declared.fault.Fault.{Fault}
use Rattle.sparql_resolve.specs.declared.fault.Fault.TheVariants.{Syntax, Unsupported}
use Rattle.sparql_resolve.specs.declared.kind.Kind.{Kind}
use Rattle.sparql_resolve.specs.declared.kind.Kind.TheVariants as kinds
use Rattle.sparql_resolve.specs.declared.kind.Token.{Token}
use Rattle.sparql_parser.specs.declared.tokens.Terminal.{Terminal}
use Rattle.sparql_parser.specs.declared.tokens.Terminal.TheVariants as terminals

-- ---- parts and their values

pub data Nonterminal : Type 0 where
  -- the whole, from a declaration or SELECT on (rules 1, 2 and 4)
  QueryUnit : Nonterminal
  -- behind SELECT (7), and behind DISTINCT
  SelectQuery : Nonterminal
  SelectBody : (distinct : Bool) → Nonterminal
  -- which variables (9)
  SelectClause : Nonterminal
  Variables : (before : List ℕ) → Nonterminal
  -- behind the pattern (18), and behind ORDER BY (23, 24)
  SolutionModifier : Nonterminal
  OrderClause : Nonterminal
  MoreConditions : (before : List Key) → Nonterminal
  OrderCondition : Nonterminal
  -- a group (53, 54), and what is behind its brace
  GroupGraphPattern : Nonterminal
  GroupGraphPatternSub : Nonterminal
  -- where triples may come, behind them, and behind another element
  TriplesOrElements : (s : PartialGroup) → Nonterminal
  Elements : (s : PartialGroup) → Nonterminal
  AfterElement : (s : PartialGroup) → Nonterminal
  -- behind FILTER (68), behind OPTIONAL (57), and behind the brace of a group in a group
  Filter : (s : PartialGroup) → Nonterminal
  OptionalGraphPattern : (s : PartialGroup) → Nonterminal
  GroupElement : (s : PartialGroup) → Nonterminal
  -- a group, and those that UNION adds (67)
  GroupOrUnionGraphPattern : Nonterminal
  -- behind the first group of a union (67)
  MoreGroups : (left : Algebra) → Nonterminal
  -- the condition of a filter (69)
  Constraint : Nonterminal
  -- triples (55, 75)
  TriplesBlock : (before : List TriplePattern) → Nonterminal
  MoreTriples : (before : List TriplePattern) → Nonterminal
  TriplesSameSubject : (before : List TriplePattern) → Nonterminal
  -- behind the bracket of a subject (99)
  BlankSubject : (n : ℕ) → (before : List TriplePattern) → Nonterminal
  -- verbs with their objects (77, 78)
  PropertyList : (s : Spot) → (before : List TriplePattern) → Nonterminal
  MoreProperties : (s : Spot) → (before : List TriplePattern) → Nonterminal
  VerbObjects : (s : Spot) → (before : List TriplePattern) → Nonterminal
  -- objects (79, 80)
  ObjectList : (s p : Spot) → (before : List TriplePattern) → Nonterminal
  MoreObjects : (s p : Spot) → (before : List TriplePattern) → Nonterminal
  Object : (before : List TriplePattern) → Nonterminal
  -- behind the bracket of an object (99)
  BlankObject : (n : ℕ) → (before : List TriplePattern) → Nonterminal
  -- a variable, or a term without a bracket (106, 109)
  VarOrTerm : Nonterminal
  -- behind a sign (130)
  SignedNumber : (sign : Sign) → Nonterminal
  -- behind a string (129)
  RdfLiteral : (text : List ℕ) → Nonterminal
  -- expressions (110 to 121)
  Expression : Nonterminal
  -- behind the first "||", and behind another operand
  OrOperands : (first : Expr) → Nonterminal
  MoreOr : (before : List Expr) → Nonterminal
  ConditionalAnd : Nonterminal
  AndOperands : (first : Expr) → Nonterminal
  MoreAnd : (before : List Expr) → Nonterminal
  Relational : Nonterminal
  Additive : Nonterminal
  -- behind the first sign of a sum, and behind another operand
  Operands : (sign : Sign) → Nonterminal
  MoreOperands : (before : List (Sign × Expr)) → Nonterminal
  Unary : Nonterminal
  Primary : Nonterminal
  Bracketed : Nonterminal
  -- behind BOUND, and behind SAMETERM
  BoundVariable : Nonterminal
  TermPair : Nonterminal

-- what a query says, but for its variables' names; a select of none is that of `*`
pub record Request : Type 0 where
  pub distinct : Bool
  pub select : Option (List ℕ)
  pub body : Algebra
  pub order : List Key

abbrev pub Value : Nonterminal → Type 0
Value QueryUnit = Request
Value SelectQuery = Request
Value (SelectBody distinct) = Request
Value SelectClause = Option (List ℕ)
Value (Variables before) = List ℕ
Value SolutionModifier = List Key
Value OrderClause = List Key
Value (MoreConditions before) = List Key
Value OrderCondition = Key
Value GroupGraphPattern = Grouped
Value GroupGraphPatternSub = Grouped
Value (TriplesOrElements s) = Grouped
Value (Elements s) = Grouped
Value (AfterElement s) = Grouped
Value (Filter s) = Grouped
Value (OptionalGraphPattern s) = Grouped
Value (GroupElement s) = Grouped
Value GroupOrUnionGraphPattern = Algebra
Value (MoreGroups left) = Algebra
Value Constraint = Expr
Value (TriplesBlock before) = List TriplePattern
Value (MoreTriples before) = List TriplePattern
Value (TriplesSameSubject before) = List TriplePattern
Value (BlankSubject n before) = List TriplePattern
Value (PropertyList s before) = List TriplePattern
Value (MoreProperties s before) = List TriplePattern
Value (VerbObjects s before) = List TriplePattern
Value (ObjectList s p before) = List TriplePattern
Value (MoreObjects s p before) = List TriplePattern
Value (Object before) = List TriplePattern × Spot
Value (BlankObject n before) = List TriplePattern × Spot
Value VarOrTerm = Spot
Value (SignedNumber sign) = Spot
Value (RdfLiteral text) = Term
Value Expression = Expr
Value (OrOperands first) = Expr
Value (MoreOr before) = Expr
Value ConditionalAnd = Expr
Value (AndOperands first) = Expr
Value (MoreAnd before) = Expr
Value Relational = Expr
Value Additive = Expr
Value (Operands sign) = List (Sign × Expr)
Value (MoreOperands before) = List (Sign × Expr)
Value Unary = Expr
Value Primary = Expr
Value Bracketed = Expr
Value BoundVariable = Expr
Value TermPair = Expr

abbrev pub G : Type 0 → Type 0
G A = Parser Token Nonterminal Value A

-- ---- words of the grammar

-- no token is as one that nothing begins with
abbrev pub kind_of : Option Token → Kind
kind_of None = kinds.Unknown
kind_of (Some t) = t.kind

-- by the kind of the next token, which stays
abbrev pub by : {A : Type 0} → (Kind → G A) → G A
by f = Peek (λ x. f (kind_of x))

abbrev pub need_by : {A : Type 0} → Bool → G A → G A
need_by true p = Advance p
need_by false p = Fail

abbrev pub choose : {A : Type 0} → Bool → G A → G A → G A
choose true p q = p
choose false p q = q

-- the value of a part is the value
abbrev pub through : (q : Nonterminal) → G (Value q)
through q = Call q (λ v. Return v)

-- the kinds that stand for one keyword or mark, or for one class of tokens
abbrev pub is_iri_ref : Kind → Bool
is_iri_ref (kinds.IriRef iri) = true
is_iri_ref _ = false

abbrev pub is_namespace : Kind → Bool
is_namespace kinds.Namespace = true
is_namespace _ = false

abbrev pub is_distinct : Kind → Bool
is_distinct kinds.Distinct = true
is_distinct _ = false

abbrev pub is_where : Kind → Bool
is_where kinds.Where = true
is_where _ = false

abbrev pub is_order : Kind → Bool
is_order kinds.Order = true
is_order _ = false

abbrev pub is_by : Kind → Bool
is_by kinds.By = true
is_by _ = false

abbrev pub is_end : Kind → Bool
is_end kinds.End = true
is_end _ = false

abbrev pub is_open_brace : Kind → Bool
is_open_brace kinds.OpenBrace = true
is_open_brace _ = false

abbrev pub is_union : Kind → Bool
is_union kinds.Union = true
is_union _ = false

abbrev pub is_dot : Kind → Bool
is_dot kinds.Dot = true
is_dot _ = false

abbrev pub is_semicolon : Kind → Bool
is_semicolon kinds.Semicolon = true
is_semicolon _ = false

abbrev pub is_comma : Kind → Bool
is_comma kinds.Comma = true
is_comma _ = false

abbrev pub is_shut_square : Kind → Bool
is_shut_square kinds.ShutSquare = true
is_shut_square _ = false

abbrev pub is_open_paren : Kind → Bool
is_open_paren kinds.OpenParen = true
is_open_paren _ = false

abbrev pub is_shut_paren : Kind → Bool
is_shut_paren kinds.ShutParen = true
is_shut_paren _ = false

abbrev pub is_or : Kind → Bool
is_or kinds.Or = true
is_or _ = false

abbrev pub is_and : Kind → Bool
is_and kinds.And = true
is_and _ = false

-- the kind is that terminal
unfoldable pub is_terminal : Terminal → Kind → Bool
is_terminal terminals.IriRef k = is_iri_ref k
is_terminal terminals.Namespace k = is_namespace k
is_terminal terminals.Distinct k = is_distinct k
is_terminal terminals.Where k = is_where k
is_terminal terminals.Order k = is_order k
is_terminal terminals.By k = is_by k
is_terminal terminals.End k = is_end k
is_terminal terminals.OpenBrace k = is_open_brace k
is_terminal terminals.Union k = is_union k
is_terminal terminals.Dot k = is_dot k
is_terminal terminals.Semicolon k = is_semicolon k
is_terminal terminals.Comma k = is_comma k
is_terminal terminals.ShutSquare k = is_shut_square k
is_terminal terminals.OpenParen k = is_open_paren k
is_terminal terminals.ShutParen k = is_shut_paren k
is_terminal terminals.Or k = is_or k
is_terminal terminals.And k = is_and k

-- the next token must be this one, and is left behind
abbrev pub need : {A : Type 0} → Terminal → G A → G A
need terminal p = by (λ k. need_by (is_terminal terminal k) p)

-- one or the other way, by the next token, which stays
abbrev pub if_next : {A : Type 0} → (Kind → Bool) → G A → G A → G A
if_next test p q = by (λ k. choose (test k) p q)

-- ---- the query

-- QueryUnit = ( BASE IRIREF | PREFIX PNAME_NS IRIREF )* SELECT SelectQuery
abbrev pub query_by : Kind → G Request
query_by kinds.Base = Advance (need terminals.IriRef (through QueryUnit))
query_by kinds.Prefix = Advance (need terminals.Namespace (need terminals.IriRef (through QueryUnit)))
query_by kinds.Select = Advance (through SelectQuery)
query_by _ = Fail

-- what stands behind WHERE? in SelectQuery
abbrev pub where_by : Bool → Option (List ℕ) → G Request
where_by distinct select =
    Call GroupGraphPattern (λ g. Call SolutionModifier (λ order. Return (record { distinct = distinct; select = select; body = filtered g; order = order })))

-- Var+ | "*"
abbrev pub select_by : Kind → G (Option (List ℕ))
select_by (kinds.Var n) = Call (Variables []) (λ all. Return (Some all))
select_by kinds.Star = Advance (Return None)
select_by _ = Fail

abbrev pub variables_by : List ℕ → Kind → G (List ℕ)
variables_by before (kinds.Var n) = Advance (through (Variables (before ++ n ∷ [])))
variables_by before _ = Return before

abbrev pub key : Expr → Bool → Key
key e descending = record { expr = e; descending = descending }

-- OrderCondition = Var | ( ASC | DESC )? Bracketed
abbrev pub condition_by : Kind → G Key
condition_by (kinds.Var n) = Advance (Return (key (Variable n) false))
condition_by kinds.OpenParen = Call Bracketed (λ e. Return (key e false))
condition_by kinds.Asc = Advance (Call Bracketed (λ e. Return (key e false)))
condition_by kinds.Desc = Advance (Call Bracketed (λ e. Return (key e true)))
condition_by _ = Fail

abbrev pub begins_condition : Kind → Bool
begins_condition (kinds.Var n) = true
begins_condition kinds.OpenParen = true
begins_condition kinds.Asc = true
begins_condition kinds.Desc = true
begins_condition _ = false

-- ---- groups

-- an element, or the end, of a group: GroupOrUnionGraphPattern, OptionalGraphPattern = OPTIONAL GroupGraphPattern, Filter = FILTER ( Bracketed | Call )
abbrev pub element_by : PartialGroup → Kind → G Grouped
element_by s kinds.ShutBrace = Advance (Return (finish_group s))
element_by s kinds.Filter = Advance (through (Filter s))
element_by s kinds.Optional = Advance (through (OptionalGraphPattern s))
element_by s kinds.OpenBrace = Advance (through (GroupElement s))
element_by s _ = Fail

abbrev pub constraint_by : Kind → G Expr
constraint_by kinds.OpenParen = through Bracketed
constraint_by kinds.Bound = through Primary
constraint_by kinds.SameTerm = through Primary
constraint_by (kinds.Function f) = through Primary
constraint_by _ = Fail

-- ---- triples

abbrev pub triple : Spot → Spot → Spot → TriplePattern
triple s p o = record { s = s; p = p; o = o }

-- the verb of VerbObjects: Var | iri | a
abbrev pub begins_verb : Kind → Bool
begins_verb (kinds.Var n) = true
begins_verb (kinds.IriRef iri) = true
begins_verb (kinds.Name iri) = true
begins_verb kinds.A = true
begins_verb _ = false

abbrev pub verb_by : Spot → List TriplePattern → Kind → G (List TriplePattern)
verb_by s before (kinds.Var n) = Advance (through (ObjectList s (spots.Var n) before))
verb_by s before (kinds.IriRef iri) = Advance (through (ObjectList s (spots.Term (Iri iri)) before))
verb_by s before (kinds.Name iri) = Advance (through (ObjectList s (spots.Term (Iri iri)) before))
verb_by s before kinds.A = Advance (through (ObjectList s (spots.Term type_iri) before))
verb_by s before _ = Fail

-- what begins a subject or an object
abbrev pub begins_term : Kind → Bool
begins_term (kinds.Var n) = true
begins_term (kinds.IriRef iri) = true
begins_term (kinds.Name iri) = true
begins_term (kinds.Label n) = true
begins_term (kinds.OpenSquare n) = true
begins_term (kinds.Text text) = true
begins_term (kinds.Number datatype lexical touches) = true
begins_term (kinds.Sign sign) = true
begins_term (kinds.Boolean truth) = true
begins_term _ = false

-- behind a sign: a number that touches it
abbrev pub signed_by : Sign → Kind → G Spot
signed_by sign (kinds.Number datatype lexical touches) = need_by touches (Return (spots.Term (signed_number sign datatype lexical)))
signed_by sign _ = Fail

-- VarOrTerm = Var | iri | BLANK_NODE_LABEL | RdfLiteral | ( "+" | "-" )? number | TRUE | FALSE
abbrev pub term_by : Kind → G Spot
term_by (kinds.Var n) = Advance (Return (spots.Var n))
term_by (kinds.IriRef iri) = Advance (Return (spots.Term (Iri iri)))
term_by (kinds.Name iri) = Advance (Return (spots.Term (Iri iri)))
term_by (kinds.Label n) = Advance (Return (spots.Var n))
term_by (kinds.Text text) = Advance (Call (RdfLiteral text) (λ t. Return (spots.Term t)))
term_by (kinds.Number datatype lexical touches) = Advance (Return (spots.Term (number datatype lexical)))
term_by (kinds.Sign sign) = Advance (through (SignedNumber sign))
term_by (kinds.Boolean truth) = Advance (Return (spots.Term (boolean truth)))
term_by _ = Fail

abbrev pub datatype_by : List ℕ → Kind → G Term
datatype_by text (kinds.IriRef iri) = Advance (Return (typed_text text iri))
datatype_by text (kinds.Name iri) = Advance (Return (typed_text text iri))
datatype_by text _ = Fail

-- RdfLiteral = string ( LANGTAG | "^^" iri )?
abbrev pub literal_by : List ℕ → Kind → G Term
literal_by text (kinds.Tag tag) = Advance (Return (tagged_text text tag))
literal_by text kinds.Carets = Advance (by (datatype_by text))
literal_by text _ = Return (plain_text text)

-- Object = VarOrTerm | "[" PropertyList? "]"
abbrev pub blank_object : Spot → List TriplePattern → G (List TriplePattern × Spot)
blank_object b before =
    if_next (is_terminal terminals.ShutSquare) (Advance (Return (before, b))) (Call (PropertyList b before) (λ ps. need terminals.ShutSquare (Return (ps, b))))

abbrev pub object_by : List TriplePattern → Kind → G (List TriplePattern × Spot)
object_by before (kinds.OpenSquare n) = Advance (through (BlankObject n before))
object_by before _ = Call VarOrTerm (λ o. Return (before, o))

-- TriplesSameSubject = VarOrTerm PropertyList | "[" PropertyList "]" PropertyList? | "[" "]" PropertyList
abbrev pub blank_subject : Spot → List TriplePattern → G (List TriplePattern)
blank_subject b before =
    if_next (is_terminal terminals.ShutSquare) (Advance (through (PropertyList b before)))
    (Call (PropertyList b before) (λ ps. need terminals.ShutSquare (if_next begins_verb (through (PropertyList b ps)) (Return ps))))

abbrev pub subject_by : List TriplePattern → Kind → G (List TriplePattern)
subject_by before (kinds.OpenSquare n) = Advance (through (BlankSubject n before))
subject_by before _ = Call VarOrTerm (λ s. through (PropertyList s before))

-- ---- expressions

abbrev pub relational_by : Expr → Kind → G Expr
relational_by a (kinds.Compare op) = Advance (Call Additive (λ b. Return (Compare op a b)))
relational_by a _ = Return a

abbrev pub additive_by : Expr → Kind → G Expr
additive_by first (kinds.Sign sign) = Advance (Call (Operands sign) (λ rest. Return (Sum first rest)))
additive_by first _ = Return first

abbrev pub more_operands_by : List (Sign × Expr) → Kind → G (List (Sign × Expr))
more_operands_by before (kinds.Sign sign) = Advance (Call Unary (λ e. through (MoreOperands (before ++ (sign, e) ∷ []))))
more_operands_by before _ = Return before

-- Unary = ( "!" | "+" | "-" )? Primary
abbrev pub unary_by : Kind → G Expr
unary_by kinds.Bang = Advance (Call Primary (λ e. Return (Negation e)))
unary_by (kinds.Sign sign) = Advance (Call Primary (λ e. Return (Signed sign e)))
unary_by _ = through Primary

abbrev pub bound_by : Kind → G Expr
bound_by (kinds.Var n) = Advance (need terminals.ShutParen (Return (Bound n)))
bound_by _ = Fail

-- Primary = Bracketed | Call | iri | RdfLiteral | number | TRUE | FALSE | Var
abbrev pub primary_by : Kind → G Expr
primary_by kinds.OpenParen = through Bracketed
primary_by kinds.Bound = Advance (through BoundVariable)
primary_by kinds.SameTerm = Advance (through TermPair)
primary_by (kinds.Function f) = Advance (Call Bracketed (λ e. Return (Application f e)))
primary_by (kinds.IriRef iri) = Advance (Return (Constant (Iri iri)))
primary_by (kinds.Name iri) = Advance (Return (Constant (Iri iri)))
primary_by (kinds.Text text) = Advance (Call (RdfLiteral text) (λ t. Return (Constant t)))
primary_by (kinds.Number datatype lexical touches) = Advance (Return (Constant (number datatype lexical)))
primary_by (kinds.Boolean truth) = Advance (Return (Constant (boolean truth)))
primary_by (kinds.Var n) = Advance (Return (Variable n))
primary_by _ = Fail

-- ---- all parts

abbrev pub body : (q : Nonterminal) → G (Value q)
body QueryUnit = by query_by
-- SelectQuery = DISTINCT? ( Var+ | "*" ) WHERE? GroupGraphPattern SolutionModifier
body SelectQuery = if_next (is_terminal terminals.Distinct) (Advance (through (SelectBody true))) (through (SelectBody false))
body (SelectBody distinct) = Call SelectClause (λ select. if_next (is_terminal terminals.Where) (Advance (where_by distinct select)) (where_by distinct select))
body SelectClause = by select_by
body (Variables before) = by (variables_by before)
-- SolutionModifier = ( ORDER BY OrderCondition+ )? end of the text
body SolutionModifier =
    if_next (is_terminal terminals.Order) (Advance (need terminals.By (Call OrderClause (λ keys. need terminals.End (Return keys))))) (need terminals.End (Return []))
body OrderClause = Call OrderCondition (λ k. through (MoreConditions (k ∷ [])))
body (MoreConditions before) = if_next begins_condition (Call OrderCondition (λ k. through (MoreConditions (before ++ k ∷ [])))) (Return before)
body OrderCondition = by condition_by
-- GroupGraphPattern = "{" TriplesBlock? ( ( GroupOrUnionGraphPattern | OptionalGraphPattern | Filter ) "."? TriplesBlock? )* "}"
body GroupGraphPattern = need terminals.OpenBrace (through GroupGraphPatternSub)
body GroupGraphPatternSub = through (TriplesOrElements empty_group)
body (TriplesOrElements s) = if_next begins_term (Call (TriplesBlock s.patterns) (λ ps. through (Elements (with_triples s ps)))) (through (Elements s))
body (Elements s) = by (element_by s)
body (AfterElement s) = if_next (is_terminal terminals.Dot) (Advance (through (TriplesOrElements s))) (through (TriplesOrElements s))
body (Filter s) = Call Constraint (λ e. through (AfterElement (with_filter s e)))
body (OptionalGraphPattern s) = Call GroupGraphPattern (λ g. through (AfterElement (with_option s g)))
body (GroupElement s) = Call GroupOrUnionGraphPattern (λ a. through (AfterElement (with_group s a)))
body GroupOrUnionGraphPattern = Call GroupGraphPatternSub (λ g. through (MoreGroups (filtered g)))
body (MoreGroups left) = if_next (is_terminal terminals.Union) (Advance (Call GroupGraphPattern (λ g. through (MoreGroups (Union left (filtered g)))))) (Return left)
body Constraint = by constraint_by
-- TriplesBlock = TriplesSameSubject ( "." TriplesBlock? )?
body (TriplesBlock before) = Call (TriplesSameSubject before) (λ ps. through (MoreTriples ps))
body (MoreTriples before) =
    if_next (is_terminal terminals.Dot) (Advance (if_next begins_term (Call (TriplesSameSubject before) (λ ps. through (MoreTriples ps))) (Return before))) (Return before)
body (TriplesSameSubject before) = by (subject_by before)
body (BlankSubject n before) = blank_subject (spots.Var n) before
-- PropertyList = VerbObjects ( ";" VerbObjects? )*, where VerbObjects = ( Var | iri | a ) ObjectList
body (PropertyList s before) = Call (VerbObjects s before) (λ ps. through (MoreProperties s ps))
body (MoreProperties s before) =
    if_next (is_terminal terminals.Semicolon) (Advance (if_next begins_verb (Call (VerbObjects s before) (λ ps. through (MoreProperties s ps))) (through (MoreProperties s before)))) (Return before)
body (VerbObjects s before) = by (verb_by s before)
-- ObjectList = Object ( "," Object )*
body (ObjectList s p before) = Call (Object before) (λ x. through (MoreObjects s p (x.0 ++ triple s p x.1 ∷ [])))
body (MoreObjects s p before) = if_next (is_terminal terminals.Comma) (Advance (through (ObjectList s p before))) (Return before)
body (Object before) = by (object_by before)
body (BlankObject n before) = blank_object (spots.Var n) before
body VarOrTerm = by term_by
body (SignedNumber sign) = by (signed_by sign)
body (RdfLiteral text) = by (literal_by text)
-- Expression = ConditionalAnd ( "||" ConditionalAnd )*
body Expression = Call ConditionalAnd (λ e. if_next (is_terminal terminals.Or) (Advance (through (OrOperands e))) (Return e))
body (OrOperands first) = Call ConditionalAnd (λ e. through (MoreOr (first ∷ e ∷ [])))
body (MoreOr before) = if_next (is_terminal terminals.Or) (Advance (Call ConditionalAnd (λ e. through (MoreOr (before ++ e ∷ []))))) (Return (Or before))
-- ConditionalAnd = Relational ( "&&" Relational )*
body ConditionalAnd = Call Relational (λ e. if_next (is_terminal terminals.And) (Advance (through (AndOperands e))) (Return e))
body (AndOperands first) = Call Relational (λ e. through (MoreAnd (first ∷ e ∷ [])))
body (MoreAnd before) = if_next (is_terminal terminals.And) (Advance (Call Relational (λ e. through (MoreAnd (before ++ e ∷ []))))) (Return (And before))
-- Relational = Additive ( ( "=" | "!=" | "<" | ">" | "<=" | ">=" ) Additive )?
body Relational = Call Additive (λ e. by (relational_by e))
-- Additive = Unary ( ( "+" | "-" ) Unary )*
body Additive = Call Unary (λ e. by (additive_by e))
body (Operands sign) = Call Unary (λ e. through (MoreOperands ((sign, e) ∷ [])))
body (MoreOperands before) = by (more_operands_by before)
body Unary = by unary_by
body Primary = by primary_by
-- Bracketed = "(" Expression ")"
body Bracketed = need terminals.OpenParen (Call Expression (λ e. need terminals.ShutParen (Return e)))
-- Call = BOUND "(" Var ")" | SAMETERM "(" Expression "," Expression ")" | a function and Bracketed (in Primary)
body BoundVariable = need terminals.OpenParen (by bound_by)
body TermPair = need terminals.OpenParen (Call Expression (λ a. need terminals.Comma (Call Expression (λ b. need terminals.ShutParen (Return (SameTerm a b))))))

-- ---- faults

-- tokens of SPARQL that the profile does not take where they do not fit
abbrev pub is_unsupported : Kind → Bool
is_unsupported kinds.Star = true
is_unsupported (kinds.Sign signs.Plus) = true
is_unsupported kinds.Bang = true
is_unsupported kinds.OpenParen = true
is_unsupported kinds.Select = true
is_unsupported kinds.Unsupported = true
is_unsupported _ = false

abbrev pub misfit_by : Bool → ℕ → Fault
misfit_by true from = Unsupported from
misfit_by false from = Syntax from

-- a token that does not fit
abbrev pub misfit_of : Token → Fault
misfit_of t = misfit_by (is_unsupported t.kind) t.from

-- nothing is read from the token on that brings the fault `stop`, or from the end
abbrev pub fault_of : Fault → List Token → Fault
fault_of stop [] = stop
fault_of stop (t ∷ ts) = misfit_of t

abbrev pub sparql : Fault → Grammar
sparql stop = record { Token = Token; Fault = Fault; Nonterminal = Nonterminal; Value = Value; body = body; fault_at = fault_of stop }

-- ---- reading

-- a part calls only parts of a smaller rank before a token is taken
abbrev pub rank : Nonterminal → ℕ
rank SelectQuery = 3
rank (SelectBody distinct) = 2
rank SelectClause = 1
rank OrderClause = 3
rank (MoreConditions before) = 2
rank OrderCondition = 1
rank GroupGraphPatternSub = 5
rank (TriplesOrElements s) = 4
rank (AfterElement s) = 5
rank (Filter s) = 6
rank (OptionalGraphPattern s) = 6
rank (GroupElement s) = 7
rank GroupOrUnionGraphPattern = 6
rank Constraint = 2
rank (TriplesBlock before) = 3
rank (TriplesSameSubject before) = 2
rank (BlankSubject n before) = 2
rank (PropertyList s before) = 1
rank (ObjectList s p before) = 2
rank (Object before) = 1
rank (BlankObject n before) = 2
rank Expression = 6
rank (OrOperands first) = 6
rank ConditionalAnd = 5
rank (AndOperands first) = 5
rank Relational = 4
rank Additive = 3
rank (Operands sign) = 3
rank Unary = 2
rank Primary = 1
rank _ = 0

-- parts that surely take a token, where a rank needs it
abbrev pub takes : Nonterminal → Bool
takes OrderCondition = true
takes Bracketed = true
takes _ = false

abbrev pub E : Nonterminal → Type 0
E q = Outcome Token Fault (Value q)

-- what the part reads of the tokens
unfoldable pub reads : Fault → (q : Nonterminal) → List Token → E q
reads stop q ts = parse (sparql stop) rank takes 8 q ts

-- the same, opened by one step
abbrev pub within : Fault → (q : Nonterminal) → List Token → E q
within stop q ts = go (sparql stop) (reads stop) q (body q) ts

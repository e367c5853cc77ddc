-- Of tokens whose variables are below the width, the grammar makes a request whose variables are below the width.
use Rattle.std.proofs.Common.{◌<◌, ◌≤◌, ℕ, List, [], ◌∷◌, Bool, true, false, Option, Some, None, arith}
use Rattle.grammar_model.specs.Parsers.{Return, Fail, Advance, Peek, Call, Done, Rejected, first_of_list, Reads, give, misfit, skip, skip_end, look, call, call_not}
use Rattle.rows_core.specs.declared.pattern.Spot.{Spot}
use Rattle.rows_core.specs.declared.pattern.TriplePattern.{TriplePattern}
use Rattle.expr_eval.specs.declared.expr.Expr.{Expr}
use Rattle.expr_eval.specs.declared.expr.Sign.{Sign}
use Rattle.rdf_terms.specs.declared.term.Term.TheVariants.{Iri}
use Rattle.algebra_core.specs.Query.{IsBelow}
use Rattle.algebra_translation.specs.Translation.{PartialGroup, number, boolean}
use Rattle.sparql_resolve.specs.declared.fault.Fault.{Fault}
use Rattle.sparql_resolve.specs.declared.kind.Kind.{Kind}
use Rattle.sparql_resolve.specs.declared.kind.Kind.TheVariants as kinds
use Rattle.sparql_resolve.specs.declared.kind.Token.{Token}
use Rattle.sparql_parser.specs.declared.tokens.Terminal.TheVariants as terminals
use Rattle.sparql_parser.specs.Grammar.{Nonterminal, Value, G, E, Request, body, sparql, where_by, triple, kind_of, need_by, choose, is_terminal, query_by, select_by, variables_by, condition_by, element_by, constraint_by, verb_by, signed_by, term_by, datatype_by, literal_by, object_by, subject_by, relational_by, additive_by, more_operands_by, unary_by, bound_by, primary_by, begins_condition, begins_term, begins_verb}
use Rattle.sparql_parser.specs.Grammar.{QueryUnit, SelectQuery, SelectBody, SelectClause, Variables, SolutionModifier, OrderClause, MoreConditions, OrderCondition, GroupGraphPattern, GroupGraphPatternSub, TriplesOrElements, Elements, AfterElement, Filter, OptionalGraphPattern, GroupElement, GroupOrUnionGraphPattern, MoreGroups, Constraint, TriplesBlock, MoreTriples, TriplesSameSubject, BlankSubject, PropertyList, MoreProperties, VerbObjects, ObjectList, MoreObjects, Object, BlankObject, VarOrTerm, SignedNumber, RdfLiteral, Expression, OrOperands, MoreOr, ConditionalAnd, AndOperands, MoreAnd, Relational, Additive, Operands, MoreOperands, Unary, Primary, Bracketed, BoundVariable, TermPair}
use Rattle.sparql_parser.proofs.Fitting.{Each, each_nil, each_one, each_push, each_head, each_tail, FitsExpr, FitsKey, FitMany, FitSome, FitsPattern, FitsAlgebra, FitsPartialGroup, FitsGroup, fits_variable, fits_bound, fits_constant, fits_not, fits_signed, fits_call, fits_compare, fits_same, fits_or, fits_and, fits_sum, many_two, many_push, some_one, some_push, fits_union, fits_empty, fits_finished, fits_filtered, fits_with_filter, fits_with_triples, fits_with_group, fits_with_option}

module _ (names width : ℕ) where
  abbrev pub IsNamed : ℕ → Type 0
  IsNamed v = v < names

  -- the token's variable is below the width, and has a name where it is written as one
  abbrev pub FitsKind : Kind → Type 0
  FitsKind (kinds.Var n) = n < names
  FitsKind (kinds.Label n) = n < width
  FitsKind (kinds.OpenSquare n) = n < width
  FitsKind _ = Unit {0}

  abbrev pub FitsToken : Token → Type 0
  FitsToken t = FitsKind t.kind

  abbrev pub FitsSelect : Option (List ℕ) → Type 0
  FitsSelect None = Unit {0}
  FitsSelect (Some all) = Each IsNamed all

  pub record FitsRequest (r : Request) : Type 0 where
    pub select : FitsSelect r.select
    pub body : FitsAlgebra width r.body
    pub order : Each (FitsKey width) r.order

  abbrev Ps : List TriplePattern → Type 0
  Ps ps = Each (FitsPattern width) ps

  abbrev Fits : (q : Nonterminal) → Value q → Type 0
  Fits QueryUnit r = FitsRequest r
  Fits SelectQuery r = FitsRequest r
  Fits (SelectBody distinct) r = FitsRequest r
  Fits SelectClause s = FitsSelect s
  Fits (Variables before) all = Each IsNamed all
  Fits SolutionModifier ks = Each (FitsKey width) ks
  Fits OrderClause ks = Each (FitsKey width) ks
  Fits (MoreConditions before) ks = Each (FitsKey width) ks
  Fits OrderCondition k = FitsKey width k
  Fits GroupGraphPattern g = FitsGroup width g
  Fits GroupGraphPatternSub g = FitsGroup width g
  Fits (TriplesOrElements s) g = FitsGroup width g
  Fits (Elements s) g = FitsGroup width g
  Fits (AfterElement s) g = FitsGroup width g
  Fits (Filter s) g = FitsGroup width g
  Fits (OptionalGraphPattern s) g = FitsGroup width g
  Fits (GroupElement s) g = FitsGroup width g
  Fits GroupOrUnionGraphPattern a = FitsAlgebra width a
  Fits (MoreGroups left) a = FitsAlgebra width a
  Fits Constraint e = FitsExpr width e
  Fits (TriplesBlock before) ps = Ps ps
  Fits (MoreTriples before) ps = Ps ps
  Fits (TriplesSameSubject before) ps = Ps ps
  Fits (BlankSubject n before) ps = Ps ps
  Fits (PropertyList s before) ps = Ps ps
  Fits (MoreProperties s before) ps = Ps ps
  Fits (VerbObjects s before) ps = Ps ps
  Fits (ObjectList s p before) ps = Ps ps
  Fits (MoreObjects s p before) ps = Ps ps
  Fits (Object before) x = Ps x.0 × IsBelow width x.1
  Fits (BlankObject n before) x = Ps x.0 × IsBelow width x.1
  Fits VarOrTerm s = IsBelow width s
  Fits (SignedNumber sign) s = IsBelow width s
  Fits (RdfLiteral text) t = Unit {0}
  Fits Expression e = FitsExpr width e
  Fits (OrOperands first) e = FitsExpr width e
  Fits (MoreOr before) e = FitsExpr width e
  Fits ConditionalAnd e = FitsExpr width e
  Fits (AndOperands first) e = FitsExpr width e
  Fits (MoreAnd before) e = FitsExpr width e
  Fits Relational e = FitsExpr width e
  Fits Additive e = FitsExpr width e
  Fits (Operands sign) all = FitSome width all
  Fits (MoreOperands before) all = FitSome width all
  Fits Unary e = FitsExpr width e
  Fits Primary e = FitsExpr width e
  Fits Bracketed e = FitsExpr width e
  Fits BoundVariable e = FitsExpr width e
  Fits TermPair e = FitsExpr width e

  -- what is asked of what stands before a part
  abbrev Owes : Nonterminal → Type 0
  Owes (Variables before) = Each IsNamed before
  Owes (MoreConditions before) = Each (FitsKey width) before
  Owes (TriplesOrElements s) = FitsPartialGroup width s
  Owes (Elements s) = FitsPartialGroup width s
  Owes (AfterElement s) = FitsPartialGroup width s
  Owes (Filter s) = FitsPartialGroup width s
  Owes (OptionalGraphPattern s) = FitsPartialGroup width s
  Owes (GroupElement s) = FitsPartialGroup width s
  Owes (MoreGroups left) = FitsAlgebra width left
  Owes (TriplesBlock before) = Ps before
  Owes (MoreTriples before) = Ps before
  Owes (TriplesSameSubject before) = Ps before
  Owes (BlankSubject n before) = (n < width) × Ps before
  Owes (PropertyList s before) = IsBelow width s × Ps before
  Owes (MoreProperties s before) = IsBelow width s × Ps before
  Owes (VerbObjects s before) = IsBelow width s × Ps before
  Owes (ObjectList s p before) = IsBelow width s × IsBelow width p × Ps before
  Owes (MoreObjects s p before) = IsBelow width s × IsBelow width p × Ps before
  Owes (Object before) = Ps before
  Owes (BlankObject n before) = (n < width) × Ps before
  Owes (OrOperands first) = FitsExpr width first
  Owes (MoreOr before) = FitMany width before
  Owes (AndOperands first) = FitsExpr width first
  Owes (MoreAnd before) = FitMany width before
  Owes (MoreOperands before) = FitSome width before
  Owes _ = Unit {0}

  -- each value that is given fits
  abbrev Sound : (m : Nonterminal) → G (Value m) → Type 0
  Sound m (Return v) = Fits m v
  Sound m Fail = Unit {0}
  Sound m (Advance p) = Sound m p
  Sound m (Peek by) = (x : Option Token) → FitsKind (kind_of x) → Sound m (by x)
  Sound m (Call q k) = Owes q × ((v : Value q) → Fits q v → Sound m (k v))

  needed : (m : Nonterminal) (b : Bool) (p : G (Value m)) → Sound m p → Sound m (need_by b p)
  needed m true p h = h
  needed m false p h = tt

  chosen : (m : Nonterminal) (b : Bool) (p q : G (Value m)) → Sound m p → Sound m q → Sound m (choose b p q)
  chosen m true p q g h = g
  chosen m false p q g h = h

  module _ (enough : names ≤ width) where
    below : (n : ℕ) → n < names → n < width
    below n h = omega (arith, h, enough)

    query_sound : (k : Kind) → FitsKind k → Sound QueryUnit (query_by k)
    query_sound kinds.Base f = λ x g. needed QueryUnit (is_terminal terminals.IriRef (kind_of x)) _ (tt, λ v h. h)
    query_sound kinds.Prefix f = λ x g. needed QueryUnit (is_terminal terminals.Namespace (kind_of x)) _ (λ y i. needed QueryUnit (is_terminal terminals.IriRef (kind_of y)) _ (tt, λ v h. h))
    query_sound kinds.Select f = (tt, λ v h. h)
    query_sound k f = tt

    select_sound : (k : Kind) → FitsKind k → Sound SelectClause (select_by k)
    select_sound (kinds.Var n) f = (each_nil IsNamed, λ all h. h)
    select_sound kinds.Star f = tt
    select_sound k f = tt

    variables_sound : (before : List ℕ) → Each IsNamed before → (k : Kind) → FitsKind k → Sound (Variables before) (variables_by before k)
    variables_sound before o (kinds.Var n) f = (each_push IsNamed before n o f, λ v h. h)
    variables_sound before o k f = o

    condition_sound : (k : Kind) → FitsKind k → Sound OrderCondition (condition_by k)
    condition_sound (kinds.Var n) f = fits_variable width n (below n f)
    condition_sound kinds.OpenParen f = (tt, λ e h. h)
    condition_sound kinds.Asc f = (tt, λ e h. h)
    condition_sound kinds.Desc f = (tt, λ e h. h)
    condition_sound k f = tt

    element_sound : (s : PartialGroup) → FitsPartialGroup width s → (k : Kind) → FitsKind k → Sound (Elements s) (element_by s k)
    element_sound s o kinds.ShutBrace f = fits_finished width s o
    element_sound s o kinds.Filter f = (o, λ v h. h)
    element_sound s o kinds.Optional f = (o, λ v h. h)
    element_sound s o kinds.OpenBrace f = (o, λ v h. h)
    element_sound s o k f = tt

    constraint_sound : (k : Kind) → FitsKind k → Sound Constraint (constraint_by k)
    constraint_sound kinds.OpenParen f = (tt, λ v h. h)
    constraint_sound kinds.Bound f = (tt, λ v h. h)
    constraint_sound kinds.SameTerm f = (tt, λ v h. h)
    constraint_sound (kinds.Function g) f = (tt, λ v h. h)
    constraint_sound k f = tt

    verb_sound : (s : Spot) (before : List TriplePattern) → IsBelow width s × Ps before → (k : Kind) → FitsKind k → Sound (VerbObjects s before) (verb_by s before k)
    verb_sound s before o (kinds.Var n) f = ((o.0, below n f, o.1), λ v h. h)
    verb_sound s before o (kinds.IriRef iri) f = ((o.0, tt, o.1), λ v h. h)
    verb_sound s before o (kinds.Name iri) f = ((o.0, tt, o.1), λ v h. h)
    verb_sound s before o kinds.A f = ((o.0, tt, o.1), λ v h. h)
    verb_sound s before o k f = tt

    signed_sound : (sign : Sign) (k : Kind) → FitsKind k → Sound (SignedNumber sign) (signed_by sign k)
    signed_sound sign (kinds.Number datatype lexical touches) f = needed (SignedNumber sign) touches _ tt
    signed_sound sign k f = tt

    term_sound : (k : Kind) → FitsKind k → Sound VarOrTerm (term_by k)
    term_sound (kinds.Var n) f = below n f
    term_sound (kinds.IriRef iri) f = tt
    term_sound (kinds.Name iri) f = tt
    term_sound (kinds.Label n) f = f
    term_sound (kinds.Text text) f = (tt, λ t h. tt)
    term_sound (kinds.Number datatype lexical touches) f = tt
    term_sound (kinds.Sign sign) f = (tt, λ s h. h)
    term_sound (kinds.Boolean truth) f = tt
    term_sound k f = tt

    datatype_sound : (text : List ℕ) (k : Kind) → Sound (RdfLiteral text) (datatype_by text k)
    datatype_sound text (kinds.IriRef iri) = tt
    datatype_sound text (kinds.Name iri) = tt
    datatype_sound text k = tt

    literal_sound : (text : List ℕ) (k : Kind) → FitsKind k → Sound (RdfLiteral text) (literal_by text k)
    literal_sound text (kinds.Tag tag) f = tt
    literal_sound text kinds.Carets f = λ x g. datatype_sound text (kind_of x)
    literal_sound text k f = tt

    object_sound : (before : List TriplePattern) → Ps before → (k : Kind) → FitsKind k → Sound (Object before) (object_by before k)
    object_sound before o (kinds.OpenSquare n) f = ((f, o), λ v h. h)
    object_sound before o k f = (tt, λ s h. (o, h))

    subject_sound : (before : List TriplePattern) → Ps before → (k : Kind) → FitsKind k → Sound (TriplesSameSubject before) (subject_by before k)
    subject_sound before o (kinds.OpenSquare n) f = ((f, o), λ v h. h)
    subject_sound before o k f = (tt, λ s h. ((h, o), λ v g. g))

    relational_sound : (e : Expr) → FitsExpr width e → (k : Kind) → FitsKind k → Sound Relational (relational_by e k)
    relational_sound e o (kinds.Compare op) f = (tt, λ b h. fits_compare width op e b o h)
    relational_sound e o k f = o

    additive_sound : (e : Expr) → FitsExpr width e → (k : Kind) → FitsKind k → Sound Additive (additive_by e k)
    additive_sound e o (kinds.Sign sign) f = (tt, λ rest h. fits_sum width e rest o h)
    additive_sound e o k f = o

    more_operands_sound : (before : List (Sign × Expr)) → FitSome width before → (k : Kind) → FitsKind k → Sound (MoreOperands before) (more_operands_by before k)
    more_operands_sound before o (kinds.Sign sign) f = (tt, λ e h. (some_push width before sign e o h, λ v g. g))
    more_operands_sound before o k f = o

    unary_sound : (k : Kind) → FitsKind k → Sound Unary (unary_by k)
    unary_sound kinds.Bang f = (tt, λ e h. fits_not width e h)
    unary_sound (kinds.Sign sign) f = (tt, λ e h. fits_signed width sign e h)
    unary_sound k f = (tt, λ v h. h)

    bound_sound : (k : Kind) → FitsKind k → Sound BoundVariable (bound_by k)
    bound_sound (kinds.Var n) f = λ x g. needed BoundVariable (is_terminal terminals.ShutParen (kind_of x)) _ (fits_bound width n (below n f))
    bound_sound k f = tt

    primary_sound : (k : Kind) → FitsKind k → Sound Primary (primary_by k)
    primary_sound kinds.OpenParen f = (tt, λ v h. h)
    primary_sound kinds.Bound f = (tt, λ v h. h)
    primary_sound kinds.SameTerm f = (tt, λ v h. h)
    primary_sound (kinds.Function g) f = (tt, λ e h. fits_call width g e h)
    primary_sound (kinds.IriRef iri) f = fits_constant width (Iri iri)
    primary_sound (kinds.Name iri) f = fits_constant width (Iri iri)
    primary_sound (kinds.Text text) f = (tt, λ t h. fits_constant width t)
    primary_sound (kinds.Number datatype lexical touches) f = fits_constant width (number datatype lexical)
    primary_sound (kinds.Boolean truth) f = fits_constant width (boolean truth)
    primary_sound (kinds.Var n) f = fits_variable width n (below n f)
    primary_sound k f = tt

    where_sound : (distinct : Bool) (select : Option (List ℕ)) → FitsSelect select → Sound (SelectBody distinct) (where_by distinct select)
    where_sound distinct select s = (tt, λ g h. (tt, λ order k. record { select = s; body = fits_filtered width g h; order = k }))

    pattern : (s p o : Spot) → IsBelow width s → IsBelow width p → IsBelow width o → FitsPattern width (triple s p o)
    pattern s p o a b c = (a, b, c)

    sound : (q : Nonterminal) → Owes q → Sound q (body q)
    sound QueryUnit o = λ x f. query_sound (kind_of x) f
    sound SelectQuery o = λ x f. chosen SelectQuery (is_terminal terminals.Distinct (kind_of x)) _ _ (tt, λ v h. h) (tt, λ v h. h)
    sound (SelectBody distinct) o = (tt, λ select s x f. chosen (SelectBody distinct) (is_terminal terminals.Where (kind_of x)) _ _ (where_sound distinct select s) (where_sound distinct select s))
    sound SelectClause o = λ x f. select_sound (kind_of x) f
    sound (Variables before) o = λ x f. variables_sound before o (kind_of x) f
    sound SolutionModifier o = λ x f. chosen SolutionModifier (is_terminal terminals.Order (kind_of x)) _ _
        (λ y g. needed SolutionModifier (is_terminal terminals.By (kind_of y)) _ (tt, λ keys h z i. needed SolutionModifier (is_terminal terminals.End (kind_of z)) _ h))
        (λ y g. needed SolutionModifier (is_terminal terminals.End (kind_of y)) _ (each_nil (FitsKey width)))
    sound OrderClause o = (tt, λ k h. (each_one (FitsKey width) k h, λ v g. g))
    sound (MoreConditions before) o = λ x f. chosen (MoreConditions before) (begins_condition (kind_of x)) _ _ (tt, λ k h. (each_push (FitsKey width) before k o h, λ v g. g)) o
    sound OrderCondition o = λ x f. condition_sound (kind_of x) f
    sound GroupGraphPattern o = λ x f. needed GroupGraphPattern (is_terminal terminals.OpenBrace (kind_of x)) _ (tt, λ v h. h)
    sound GroupGraphPatternSub o = (fits_empty width, λ v h. h)
    sound (TriplesOrElements s) o = λ x f. chosen (TriplesOrElements s) (begins_term (kind_of x)) _ _ (o.patterns, λ ps h. (fits_with_triples width s ps o h, λ v g. g)) (o, λ v h. h)
    sound (Elements s) o = λ x f. element_sound s o (kind_of x) f
    sound (AfterElement s) o = λ x f. chosen (AfterElement s) (is_terminal terminals.Dot (kind_of x)) _ _ (o, λ v h. h) (o, λ v h. h)
    sound (Filter s) o = (tt, λ e h. (fits_with_filter width s e o h, λ v g. g))
    sound (OptionalGraphPattern s) o = (tt, λ g h. (fits_with_option width s g o h, λ v i. i))
    sound (GroupElement s) o = (tt, λ a h. (fits_with_group width s a o h, λ v g. g))
    sound GroupOrUnionGraphPattern o = (tt, λ g h. (fits_filtered width g h, λ v i. i))
    sound (MoreGroups left) o = λ x f. chosen (MoreGroups left) (is_terminal terminals.Union (kind_of x)) _ _ (tt, λ g h. (fits_union width left _ o (fits_filtered width g h), λ v i. i)) o
    sound Constraint o = λ x f. constraint_sound (kind_of x) f
    sound (TriplesBlock before) o = (o, λ ps h. (h, λ v g. g))
    sound (MoreTriples before) o = λ x f. chosen (MoreTriples before) (is_terminal terminals.Dot (kind_of x)) _ _
        (λ y g. chosen (MoreTriples before) (begins_term (kind_of y)) _ _ (o, λ ps h. (h, λ v i. i)) o) o
    sound (TriplesSameSubject before) o = λ x f. subject_sound before o (kind_of x) f
    sound (BlankSubject n before) o = λ x f. chosen (BlankSubject n before) (is_terminal terminals.ShutSquare (kind_of x)) _ _ ((o.0, o.1), λ v h. h)
        ((o.0, o.1), λ ps h y g. needed (BlankSubject n before) (is_terminal terminals.ShutSquare (kind_of y)) _ (λ z i. chosen (BlankSubject n before) (begins_verb (kind_of z)) _ _ ((o.0, h), λ v j. j) h))
    sound (PropertyList s before) o = (o, λ ps h. ((o.0, h), λ v g. g))
    sound (MoreProperties s before) o = λ x f. chosen (MoreProperties s before) (is_terminal terminals.Semicolon (kind_of x)) _ _
        (λ y g. chosen (MoreProperties s before) (begins_verb (kind_of y)) _ _ (o, λ ps h. ((o.0, h), λ v i. i)) (o, λ v h. h)) o.1
    sound (VerbObjects s before) o = λ x f. verb_sound s before o (kind_of x) f
    sound (ObjectList s p before) o = (o.2, λ x h. ((o.0, o.1, each_push (FitsPattern width) x.0 _ h.0 (pattern s p x.1 o.0 o.1 h.1)), λ v g. g))
    sound (MoreObjects s p before) o = λ x f. chosen (MoreObjects s p before) (is_terminal terminals.Comma (kind_of x)) _ _ (o, λ v h. h) o.2
    sound (Object before) o = λ x f. object_sound before o (kind_of x) f
    sound (BlankObject n before) o = λ x f. chosen (BlankObject n before) (is_terminal terminals.ShutSquare (kind_of x)) _ _ (o.1, o.0)
        ((o.0, o.1), λ ps h y g. needed (BlankObject n before) (is_terminal terminals.ShutSquare (kind_of y)) _ (h, o.0))
    sound VarOrTerm o = λ x f. term_sound (kind_of x) f
    sound (SignedNumber sign) o = λ x f. signed_sound sign (kind_of x) f
    sound (RdfLiteral text) o = λ x f. literal_sound text (kind_of x) f
    sound Expression o = (tt, λ e h x f. chosen Expression (is_terminal terminals.Or (kind_of x)) _ _ (h, λ v g. g) h)
    sound (OrOperands first) o = (tt, λ e h. (many_two width first e o h, λ v g. g))
    sound (MoreOr before) o = λ x f. chosen (MoreOr before) (is_terminal terminals.Or (kind_of x)) _ _ (tt, λ e h. (many_push width before e o h, λ v g. g)) (fits_or width before o)
    sound ConditionalAnd o = (tt, λ e h x f. chosen ConditionalAnd (is_terminal terminals.And (kind_of x)) _ _ (h, λ v g. g) h)
    sound (AndOperands first) o = (tt, λ e h. (many_two width first e o h, λ v g. g))
    sound (MoreAnd before) o = λ x f. chosen (MoreAnd before) (is_terminal terminals.And (kind_of x)) _ _ (tt, λ e h. (many_push width before e o h, λ v g. g)) (fits_and width before o)
    sound Relational o = (tt, λ e h x f. relational_sound e h (kind_of x) f)
    sound Additive o = (tt, λ e h x f. additive_sound e h (kind_of x) f)
    sound (Operands sign) o = (tt, λ e h. (some_one width sign e h, λ v g. g))
    sound (MoreOperands before) o = λ x f. more_operands_sound before o (kind_of x) f
    sound Unary o = λ x f. unary_sound (kind_of x) f
    sound Primary o = λ x f. primary_sound (kind_of x) f
    sound Bracketed o = λ x f. needed Bracketed (is_terminal terminals.OpenParen (kind_of x)) _ (tt, λ e h y g. needed Bracketed (is_terminal terminals.ShutParen (kind_of y)) _ h)
    sound BoundVariable o = λ x f. needed BoundVariable (is_terminal terminals.OpenParen (kind_of x)) _ (λ y g. bound_sound (kind_of y) g)
    sound TermPair o = λ x f. needed TermPair (is_terminal terminals.OpenParen (kind_of x)) _
        (tt, λ a h y g. needed TermPair (is_terminal terminals.Comma (kind_of y)) _ (tt, λ b i z j. needed TermPair (is_terminal terminals.ShutParen (kind_of z)) _ (fits_same width a b h i)))

    next_fits : (ts : List Token) → Each FitsToken ts → FitsKind (kind_of (first_of_list ts))
    next_fits [] e = tt
    next_fits (t ∷ ts) e = each_head FitsToken t ts e

    module _ (stop : Fault) where
      abbrev Kept : (m : Nonterminal) → E m → Type 0
      Kept m (Done v us) = Fits m v × Each FitsToken us
      Kept m (Rejected x) = Unit {0}

      keeps : (m : Nonterminal) (p : G (Value m)) (ts : List Token) (o : E m) → Reads (sparql stop) m p ts o → Each FitsToken ts → Sound m p → Kept m o
      keeps m (Return v) ts _ give e s = (s, e)
      keeps m Fail ts _ misfit e s = tt
      keeps m (Advance p) (t ∷ ts) o (skip r) e s = keeps m p ts o r (each_tail FitsToken t ts e) s
      keeps m (Advance p) [] _ skip_end e s = tt
      keeps m (Peek by) ts o (look r) e s = keeps m (by (first_of_list ts)) ts o r e (s (first_of_list ts) (next_fits ts e))
      keeps m (Call q k) ts o (call {us} {v} r t) e s = let h = keeps q (body q) ts _ r e (sound q s.0) in keeps m (k v) us o t h.1 (s.1 v h.0)
      keeps m (Call q k) ts _ (call_not r) e s = tt

      pub request_fits : (ts us : List Token) (r : Request) → Reads (sparql stop) QueryUnit (body QueryUnit) ts (Done r us) → Each FitsToken ts → FitsRequest r
      request_fits ts us r d e = (keeps QueryUnit (body QueryUnit) ts (Done r us) d e (sound QueryUnit tt)).0

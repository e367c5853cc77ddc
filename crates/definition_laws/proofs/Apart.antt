-- Where the grammar reads a query, a block of triples begins a basic graph pattern exactly if a brace stands before it.
use Rattle.std.proofs.Common.{◌≡◌, List, [], ◌∷◌, ◌++◌, Bool, true, false, ◌||◌, Option, ◌⊎◌, inl, inr, ℕ, cond, refl, sym, ap, subst, ◌∙◌}
use Rattle.rows_core.specs.declared.pattern.Spot.{Spot}
use Rattle.rows_core.specs.declared.pattern.TriplePattern.{TriplePattern}
use Rattle.expr_eval.specs.declared.expr.Expr.{Expr}
use Rattle.expr_eval.specs.declared.expr.Sign.{Sign}
use Rattle.algebra_translation.specs.Translation.{PartialGroup}
use Rattle.sparql_resolve.specs.declared.fault.Fault.{Fault}
use Rattle.sparql_resolve.specs.declared.kind.Kind.{Kind}
use Rattle.sparql_resolve.specs.declared.kind.Kind.TheVariants as kinds
use Rattle.sparql_resolve.specs.declared.kind.Token.{Token}
use Rattle.sparql_parser.specs.declared.tokens.Terminal.{Terminal}
use Rattle.sparql_parser.specs.declared.tokens.Terminal.TheVariants as terminals
use Rattle.sparql_parser.specs.Grammar.{QueryUnit, SelectQuery, SelectBody, SelectClause, Variables, SolutionModifier, OrderClause, MoreConditions, OrderCondition, GroupGraphPattern, GroupGraphPatternSub, TriplesOrElements, Elements, AfterElement, Filter, OptionalGraphPattern, GroupElement, GroupOrUnionGraphPattern, MoreGroups, Constraint, TriplesBlock, MoreTriples, TriplesSameSubject, BlankSubject, PropertyList, MoreProperties, VerbObjects, ObjectList, MoreObjects, Object, BlankObject, VarOrTerm, SignedNumber, RdfLiteral, Expression, OrOperands, MoreOr, ConditionalAnd, AndOperands, MoreAnd, Relational, Additive, Operands, MoreOperands, Unary, Primary, Bracketed, BoundVariable, TermPair}
use Rattle.grammar_model.specs.Parsers.{Return, Fail, Advance, Peek, Call, Done, Rejected, Reads, give, misfit, skip, skip_end, look, call, call_not, first_of_list}
use Rattle.sparql_parser.specs.Grammar.{Nonterminal, Value, G, E, Request, body, sparql, kind_of, need, need_by, choose, through, is_terminal, triple, query_by, select_by, variables_by, condition_by, element_by, constraint_by, verb_by, signed_by, term_by, datatype_by, literal_by, object_by, subject_by, relational_by, additive_by, more_operands_by, unary_by, bound_by, primary_by, begins_condition, begins_term, begins_verb}
use Rattle.definition_laws.specs.Blocks.{is_brace, is_nil, is_block, Begins, apart_behind, BlocksFit}

-- ---- each part of the grammar, by whether the block before stands apart

-- what it asks of that, and of the patterns before it
abbrev Enters : Nonterminal → Bool → Type 0
Enters GroupGraphPatternSub apart = apart ≡ true
Enters (TriplesOrElements s) apart = is_nil s.patterns ≡ apart
Enters (Elements s) apart = is_nil s.patterns ≡ apart
Enters (AfterElement s) apart = is_nil s.patterns ≡ apart
Enters (Filter s) apart = is_nil s.patterns ≡ apart
Enters (GroupElement s) apart = apart ≡ true
Enters GroupOrUnionGraphPattern apart = apart ≡ true
Enters (MoreGroups left) apart = apart ≡ true
Enters SolutionModifier apart = Unit {0}
Enters (MoreTriples before) apart = is_nil before ≡ false
Enters (MoreProperties s before) apart = is_nil before ≡ false
Enters (MoreObjects s p before) apart = is_nil before ≡ false
Enters _ apart = Unit {0}

-- how it leaves that: behind a group it does
abbrev leaves : Nonterminal → Bool → Bool
leaves QueryUnit apart = true
leaves SelectQuery apart = true
leaves (SelectBody distinct) apart = true
leaves GroupGraphPattern apart = true
leaves GroupGraphPatternSub apart = true
leaves (TriplesOrElements s) apart = true
leaves (Elements s) apart = true
leaves (AfterElement s) apart = true
leaves (Filter s) apart = true
leaves (OptionalGraphPattern s) apart = true
leaves (GroupElement s) apart = true
leaves GroupOrUnionGraphPattern apart = true
leaves (MoreGroups left) apart = true
leaves _ apart = apart

abbrev behind : Nonterminal → Bool → Bool
behind (TriplesBlock before) apart = false
behind q apart = leaves q apart

behind_is : (q : Nonterminal) (apart : Bool) → cond (is_block q) false (leaves q apart) ≡ behind q apart
behind_is (TriplesBlock before) apart = refl
behind_is _ apart = refl

-- what holds of its value: triples make patterns
abbrev Gives : (q : Nonterminal) → Value q → Type 0
Gives (TriplesBlock before) ps = is_nil ps ≡ false
Gives (MoreTriples before) ps = is_nil ps ≡ false
Gives (TriplesSameSubject before) ps = is_nil ps ≡ false
Gives (BlankSubject n before) ps = is_nil ps ≡ false
Gives (PropertyList s before) ps = is_nil ps ≡ false
Gives (MoreProperties s before) ps = is_nil ps ≡ false
Gives (VerbObjects s before) ps = is_nil ps ≡ false
Gives (ObjectList s p before) ps = is_nil ps ≡ false
Gives (MoreObjects s p before) ps = is_nil ps ≡ false
Gives _ v = Unit {0}

more_some : (ps : List TriplePattern) (p : TriplePattern) → is_nil (ps ++ p ∷ []) ≡ false
more_some [] p = refl
more_some (q ∷ ps) p = refl

-- ---- programs

abbrev is_known : Kind → Bool
is_known kinds.Unknown = false
is_known _ = true

-- from the one to the other, to a value of which this holds
abbrev Sound : {A : Type 0} → (A → Type 0) → Bool → Bool → Kind → G A → Type 0
Sound P apart end seen (Return v) = (apart ≡ end) × P v
Sound P apart end seen Fail = Unit {0}
Sound P apart end seen (Advance p) = (is_known seen ≡ true) × Sound P (is_brace seen || apart) end kinds.Unknown p
Sound P apart end seen (Peek by') = (x : Option Token) → Sound P apart end (kind_of x) (by' x)
Sound P apart end seen (Call q k) = Begins q apart × Enters q apart × ((v : Value q) → Gives q v → Sound P (behind q apart) end kinds.Unknown (k v))

-- ---- terminals

no_unknown : (t : Terminal) → is_terminal t kinds.Unknown ≡ true → ⊥
unfolding is_terminal
no_unknown terminals.IriRef e = absurd cc
no_unknown _ e = absurd cc

abbrev is_open : Terminal → Bool
is_open terminals.OpenBrace = true
is_open _ = false

no_shut : (t : Terminal) → is_terminal t kinds.ShutBrace ≡ true → ⊥
unfolding is_terminal
no_shut terminals.IriRef e = absurd cc
no_shut _ e = absurd cc

open_is : (t : Terminal) → is_terminal t kinds.OpenBrace ≡ true → is_open t ≡ true
unfolding is_terminal
open_is terminals.OpenBrace e = refl
open_is _ e = absurd cc

known : (t : Terminal) (k : Kind) → is_terminal t k ≡ true → is_known k ≡ true
known t kinds.Unknown e = absurd (no_unknown t e)
known t _ e = refl

-- a terminal but `{` is no brace
plain : (t : Terminal) (k : Kind) → is_open t ≡ false → is_terminal t k ≡ true → is_brace k ≡ false
plain t kinds.OpenBrace o e = absurd (let p = open_is t e in cc)
plain t kinds.ShutBrace o e = absurd (no_shut t e)
plain t _ o e = refl

-- `{` is one
opens : (k : Kind) → is_terminal terminals.OpenBrace k ≡ true → is_brace k ≡ true
unfolding is_terminal
opens kinds.OpenBrace e = refl
opens _ e = absurd cc

-- ---- ways of the grammar's programs

sound_choose : {A : Type 0} (P : A → Type 0) (apart end : Bool) (k : Kind) (b : Bool) (p q : G A) → (b ≡ true → Sound P apart end k p) → Sound P apart end k q → Sound P apart end k (choose b p q)
sound_choose P apart end k true p q hp hq = hp refl
sound_choose P apart end k false p q hp hq = hq

sound_need_by : {A : Type 0} (P : A → Type 0) (apart end : Bool) (k : Kind) (b : Bool) (p : G A) → (b ≡ true → Sound P apart end k (Advance p)) → Sound P apart end k (need_by b p)
sound_need_by P apart end k true p h = h refl
sound_need_by P apart end k false p h = tt

past : {A : Type 0} (P : A → Type 0) (apart end : Bool) (t : Terminal) (k : Kind) (p : G A) → is_open t ≡ false → Sound P apart end kinds.Unknown p → is_terminal t k ≡ true → Sound P apart end k (Advance p)
past P apart end t k p o h e = (known t k e, subst (λ b. Sound P (b || apart) end kinds.Unknown p) (sym (plain t k o e)) h)

past_brace : {A : Type 0} (P : A → Type 0) (apart end : Bool) (k : Kind) (p : G A) → Sound P true end kinds.Unknown p → is_terminal terminals.OpenBrace k ≡ true → Sound P apart end k (Advance p)
past_brace P apart end k p h e = (known terminals.OpenBrace k e, subst (λ b. Sound P (b || apart) end kinds.Unknown p) (sym (opens k e)) h)

sound_need : {A : Type 0} (P : A → Type 0) (apart end : Bool) (t : Terminal) (p : G A) → is_open t ≡ false → Sound P apart end kinds.Unknown p → Sound P apart end kinds.Unknown (need t p)
sound_need P apart end t p o h = λ x. sound_need_by P apart end (kind_of x) (is_terminal t (kind_of x)) p (past P apart end t (kind_of x) p o h)

sound_if : {A : Type 0} (P : A → Type 0) (apart end : Bool) (t : Terminal) (k : Kind) (p q : G A) → is_open t ≡ false → Sound P apart end kinds.Unknown p → Sound P apart end k q → Sound P apart end k (choose (is_terminal t k) (Advance p) q)
sound_if P apart end t k p q o hp hq = sound_choose P apart end k (is_terminal t k) (Advance p) q (past P apart end t k p o hp) hq

-- ---- the parts of the grammar are such programs

sound_query : (apart : Bool) (k : Kind) → Sound (Gives QueryUnit) apart true k (query_by k)
sound_query apart kinds.Base = (refl, sound_need (Gives QueryUnit) apart true terminals.IriRef _ refl (tt, tt, λ v g. (refl, tt)))
sound_query apart kinds.Prefix = (refl, sound_need (Gives QueryUnit) apart true terminals.Namespace _ refl (sound_need (Gives QueryUnit) apart true terminals.IriRef _ refl (tt, tt, λ v g. (refl, tt))))
sound_query apart kinds.Select = (refl, (tt, tt, λ v g. (refl, tt)))
sound_query apart _ = tt

sound_select : (apart : Bool) (k : Kind) → Sound (Gives SelectClause) apart apart k (select_by k)
sound_select apart (kinds.Var n) = (tt, tt, λ v g. (refl, tt))
sound_select apart kinds.Star = (refl, (refl, tt))
sound_select apart _ = tt

sound_variables : (before : List ℕ) (apart : Bool) (k : Kind) → Sound (Gives (Variables before)) apart apart k (variables_by before k)
sound_variables before apart (kinds.Var n) = (refl, (tt, tt, λ v g. (refl, tt)))
sound_variables before apart _ = (refl, tt)

sound_condition : (apart : Bool) (k : Kind) → Sound (Gives OrderCondition) apart apart k (condition_by k)
sound_condition apart (kinds.Var n) = (refl, (refl, tt))
sound_condition apart kinds.OpenParen = (tt, tt, λ v g. (refl, tt))
sound_condition apart kinds.Asc = (refl, (tt, tt, λ v g. (refl, tt)))
sound_condition apart kinds.Desc = (refl, (tt, tt, λ v g. (refl, tt)))
sound_condition apart _ = tt

sound_element : (s : PartialGroup) (apart : Bool) (k : Kind) → is_nil s.patterns ≡ apart → Sound (Gives (Elements s)) apart true k (element_by s k)
sound_element s apart kinds.ShutBrace h = (refl, (refl, tt))
sound_element s apart kinds.Filter h = (refl, (tt, h, λ v g. (refl, tt)))
sound_element s apart kinds.Optional h = (refl, (tt, tt, λ v g. (refl, tt)))
sound_element s apart kinds.OpenBrace h = (refl, (tt, refl, λ v g. (refl, tt)))
sound_element s apart _ h = tt

sound_constraint : (apart : Bool) (k : Kind) → Sound (Gives Constraint) apart apart k (constraint_by k)
sound_constraint apart kinds.OpenParen = (tt, tt, λ v g. (refl, tt))
sound_constraint apart kinds.Bound = (tt, tt, λ v g. (refl, tt))
sound_constraint apart kinds.SameTerm = (tt, tt, λ v g. (refl, tt))
sound_constraint apart (kinds.Function f) = (tt, tt, λ v g. (refl, tt))
sound_constraint apart _ = tt

sound_verb : (s : Spot) (before : List TriplePattern) (apart : Bool) (k : Kind) → Sound (Gives (VerbObjects s before)) apart apart k (verb_by s before k)
sound_verb s before apart (kinds.Var n) = (refl, (tt, tt, λ v g. (refl, g)))
sound_verb s before apart (kinds.IriRef iri) = (refl, (tt, tt, λ v g. (refl, g)))
sound_verb s before apart (kinds.Name iri) = (refl, (tt, tt, λ v g. (refl, g)))
sound_verb s before apart kinds.A = (refl, (tt, tt, λ v g. (refl, g)))
sound_verb s before apart _ = tt

sound_signed : (sign : Sign) (apart : Bool) (k : Kind) → Sound (Gives (SignedNumber sign)) apart apart k (signed_by sign k)
sound_signed sign apart (kinds.Number datatype lexical touches) = sound_need_by (Gives (SignedNumber sign)) apart apart (kinds.Number datatype lexical touches) touches _ (λ e. (refl, (refl, tt)))
sound_signed sign apart _ = tt

sound_term : (apart : Bool) (k : Kind) → Sound (Gives VarOrTerm) apart apart k (term_by k)
sound_term apart (kinds.Var n) = (refl, (refl, tt))
sound_term apart (kinds.IriRef iri) = (refl, (refl, tt))
sound_term apart (kinds.Name iri) = (refl, (refl, tt))
sound_term apart (kinds.Label n) = (refl, (refl, tt))
sound_term apart (kinds.Text text) = (refl, (tt, tt, λ v g. (refl, tt)))
sound_term apart (kinds.Number datatype lexical touches) = (refl, (refl, tt))
sound_term apart (kinds.Sign sign) = (refl, (tt, tt, λ v g. (refl, tt)))
sound_term apart (kinds.Boolean truth) = (refl, (refl, tt))
sound_term apart _ = tt

sound_datatype : (text : List ℕ) (apart : Bool) (k : Kind) → Sound (Gives (RdfLiteral text)) apart apart k (datatype_by text k)
sound_datatype text apart (kinds.IriRef iri) = (refl, (refl, tt))
sound_datatype text apart (kinds.Name iri) = (refl, (refl, tt))
sound_datatype text apart _ = tt

sound_literal : (text : List ℕ) (apart : Bool) (k : Kind) → Sound (Gives (RdfLiteral text)) apart apart k (literal_by text k)
sound_literal text apart (kinds.Tag tag) = (refl, (refl, tt))
sound_literal text apart kinds.Carets = (refl, λ x. sound_datatype text apart (kind_of x))
sound_literal text apart _ = (refl, tt)

sound_object : (before : List TriplePattern) (apart : Bool) (k : Kind) → Sound (Gives (Object before)) apart apart k (object_by before k)
sound_object before apart (kinds.OpenSquare n) = (refl, (tt, tt, λ v g. (refl, tt)))
sound_object before apart _ = (tt, tt, λ v g. (refl, tt))

sound_subject : (before : List TriplePattern) (apart : Bool) (k : Kind) → Sound (Gives (TriplesSameSubject before)) apart apart k (subject_by before k)
sound_subject before apart (kinds.OpenSquare n) = (refl, (tt, tt, λ v g. (refl, g)))
sound_subject before apart _ = (tt, tt, λ s g. (tt, tt, λ v i. (refl, i)))

sound_relational : (a : Expr) (apart : Bool) (k : Kind) → Sound (Gives Relational) apart apart k (relational_by a k)
sound_relational a apart (kinds.Compare op) = (refl, (tt, tt, λ v g. (refl, tt)))
sound_relational a apart _ = (refl, tt)

sound_additive : (first : Expr) (apart : Bool) (k : Kind) → Sound (Gives Additive) apart apart k (additive_by first k)
sound_additive first apart (kinds.Sign sign) = (refl, (tt, tt, λ v g. (refl, tt)))
sound_additive first apart _ = (refl, tt)

sound_more_operands : (before : List (Sign × Expr)) (apart : Bool) (k : Kind) → Sound (Gives (MoreOperands before)) apart apart k (more_operands_by before k)
sound_more_operands before apart (kinds.Sign sign) = (refl, (tt, tt, λ e g. (tt, tt, λ v i. (refl, tt))))
sound_more_operands before apart _ = (refl, tt)

sound_unary : (apart : Bool) (k : Kind) → Sound (Gives Unary) apart apart k (unary_by k)
sound_unary apart kinds.Bang = (refl, (tt, tt, λ v g. (refl, tt)))
sound_unary apart (kinds.Sign sign) = (refl, (tt, tt, λ v g. (refl, tt)))
sound_unary apart _ = (tt, tt, λ v g. (refl, tt))

sound_bound : (apart : Bool) (k : Kind) → Sound (Gives BoundVariable) apart apart k (bound_by k)
sound_bound apart (kinds.Var n) = (refl, sound_need (Gives BoundVariable) apart apart terminals.ShutParen _ refl (refl, tt))
sound_bound apart _ = tt

sound_primary : (apart : Bool) (k : Kind) → Sound (Gives Primary) apart apart k (primary_by k)
sound_primary apart kinds.OpenParen = (tt, tt, λ v g. (refl, tt))
sound_primary apart kinds.Bound = (refl, (tt, tt, λ v g. (refl, tt)))
sound_primary apart kinds.SameTerm = (refl, (tt, tt, λ v g. (refl, tt)))
sound_primary apart (kinds.Function f) = (refl, (tt, tt, λ v g. (refl, tt)))
sound_primary apart (kinds.IriRef iri) = (refl, (refl, tt))
sound_primary apart (kinds.Name iri) = (refl, (refl, tt))
sound_primary apart (kinds.Text text) = (refl, (tt, tt, λ v g. (refl, tt)))
sound_primary apart (kinds.Number datatype lexical touches) = (refl, (refl, tt))
sound_primary apart (kinds.Boolean truth) = (refl, (refl, tt))
sound_primary apart (kinds.Var n) = (refl, (refl, tt))
sound_primary apart _ = tt

sound_body : (q : Nonterminal) (apart : Bool) → Enters q apart → Sound (Gives q) apart (leaves q apart) kinds.Unknown (body q)
sound_body QueryUnit apart h = λ x. sound_query apart (kind_of x)
sound_body SelectQuery apart h = λ x. sound_if (Gives SelectQuery) apart true terminals.Distinct (kind_of x) _ _ refl (tt, tt, λ v g. (refl, tt)) (tt, tt, λ v g. (refl, tt))
sound_body (SelectBody distinct) apart h = (tt, tt, λ select g. λ x. sound_if (Gives (SelectBody distinct)) apart true terminals.Where (kind_of x) _ _ refl (tt, tt, λ g i. (tt, tt, λ order j. (refl, tt))) (tt, tt, λ g i. (tt, tt, λ order j. (refl, tt))))
sound_body SelectClause apart h = λ x. sound_select apart (kind_of x)
sound_body (Variables before) apart h = λ x. sound_variables before apart (kind_of x)
sound_body SolutionModifier apart h = λ x. sound_if (Gives SolutionModifier) apart apart terminals.Order (kind_of x) _ _ refl (sound_need (Gives SolutionModifier) apart apart terminals.By _ refl (tt, tt, λ keys g. sound_need (Gives SolutionModifier) apart apart terminals.End _ refl (refl, tt))) (sound_need (Gives SolutionModifier) apart apart terminals.End _ refl (refl, tt))
sound_body OrderClause apart h = (tt, tt, λ e g. (tt, tt, λ v i. (refl, tt)))
sound_body (MoreConditions before) apart h = λ x. sound_choose (Gives (MoreConditions before)) apart apart (kind_of x) (begins_condition (kind_of x)) _ _ (λ e. (tt, tt, λ e g. (tt, tt, λ v i. (refl, tt)))) (refl, tt)
sound_body OrderCondition apart h = λ x. sound_condition apart (kind_of x)
sound_body GroupGraphPattern apart h = λ x. sound_need_by (Gives GroupGraphPattern) apart true (kind_of x) (is_terminal terminals.OpenBrace (kind_of x)) _ (past_brace (Gives GroupGraphPattern) apart true (kind_of x) (through GroupGraphPatternSub) (tt, refl, λ v g. (refl, tt)))
sound_body GroupGraphPatternSub apart h = (tt, sym h, λ v g. (refl, tt))
sound_body (TriplesOrElements s) apart h = λ x. sound_choose (Gives (TriplesOrElements s)) apart true (kind_of x) (begins_term (kind_of x)) _ _ (λ e. (h, tt, λ ps g. (tt, g, λ v i. (refl, tt)))) (tt, h, λ v g. (refl, tt))
sound_body (Elements s) apart h = λ x. sound_element s apart (kind_of x) h
sound_body (AfterElement s) apart h = λ x. sound_if (Gives (AfterElement s)) apart true terminals.Dot (kind_of x) _ _ refl (tt, h, λ v g. (refl, tt)) (tt, h, λ v g. (refl, tt))
sound_body (Filter s) apart h = (tt, tt, λ e g. (tt, h, λ v i. (refl, tt)))
sound_body (OptionalGraphPattern s) apart h = (tt, tt, λ g i. (tt, refl, λ v j. (refl, tt)))
sound_body (GroupElement s) apart h = (tt, h, λ a g. (tt, refl, λ v i. (refl, tt)))
sound_body GroupOrUnionGraphPattern apart h = (tt, h, λ g i. (tt, refl, λ v j. (refl, tt)))
sound_body (MoreGroups left) apart h = λ x. sound_if (Gives (MoreGroups left)) apart true terminals.Union (kind_of x) _ _ refl (tt, tt, λ g i. (tt, refl, λ v j. (refl, tt))) (h, tt)
sound_body Constraint apart h = λ x. sound_constraint apart (kind_of x)
sound_body (TriplesBlock before) apart h = (tt, tt, λ ps g. (tt, g, λ v i. (refl, i)))
sound_body (MoreTriples before) apart h = λ x. sound_if (Gives (MoreTriples before)) apart apart terminals.Dot (kind_of x) _ _ refl (λ y. sound_choose (Gives (MoreTriples before)) apart apart (kind_of y) (begins_term (kind_of y)) _ _ (λ e. (tt, tt, λ ps g. (tt, g, λ v i. (refl, i)))) (refl, h)) (refl, h)
sound_body (TriplesSameSubject before) apart h = λ x. sound_subject before apart (kind_of x)
sound_body (BlankSubject n before) apart h = λ x. sound_if (Gives (BlankSubject n before)) apart apart terminals.ShutSquare (kind_of x) _ _ refl (tt, tt, λ v g. (refl, g))
    (tt, tt, λ ps g. sound_need (Gives (BlankSubject n before)) apart apart terminals.ShutSquare _ refl (λ y. sound_choose (Gives (BlankSubject n before)) apart apart (kind_of y) (begins_verb (kind_of y)) _ _ (λ e. (tt, tt, λ v i. (refl, i))) (refl, g)))
sound_body (PropertyList s before) apart h = (tt, tt, λ ps g. (tt, g, λ v i. (refl, i)))
sound_body (MoreProperties s before) apart h = λ x. sound_if (Gives (MoreProperties s before)) apart apart terminals.Semicolon (kind_of x) _ _ refl
    (λ y. sound_choose (Gives (MoreProperties s before)) apart apart (kind_of y) (begins_verb (kind_of y)) _ _ (λ e. (tt, tt, λ ps g. (tt, g, λ v i. (refl, i)))) (tt, h, λ v i. (refl, i))) (refl, h)
sound_body (VerbObjects s before) apart h = λ x. sound_verb s before apart (kind_of x)
sound_body (ObjectList s p before) apart h = (tt, tt, λ x g. (tt, more_some x.0 (triple s p x.1), λ v i. (refl, i)))
sound_body (MoreObjects s p before) apart h = λ x. sound_if (Gives (MoreObjects s p before)) apart apart terminals.Comma (kind_of x) _ _ refl (tt, tt, λ v i. (refl, i)) (refl, h)
sound_body (Object before) apart h = λ x. sound_object before apart (kind_of x)
sound_body (BlankObject n before) apart h = λ x. sound_if (Gives (BlankObject n before)) apart apart terminals.ShutSquare (kind_of x) _ _ refl (refl, tt) (tt, tt, λ ps g. sound_need (Gives (BlankObject n before)) apart apart terminals.ShutSquare _ refl (refl, tt))
sound_body VarOrTerm apart h = λ x. sound_term apart (kind_of x)
sound_body (SignedNumber sign) apart h = λ x. sound_signed sign apart (kind_of x)
sound_body (RdfLiteral text) apart h = λ x. sound_literal text apart (kind_of x)
sound_body Expression apart h = (tt, tt, λ e g. λ x. sound_if (Gives Expression) apart apart terminals.Or (kind_of x) _ _ refl (tt, tt, λ v g. (refl, tt)) (refl, tt))
sound_body (OrOperands first) apart h = (tt, tt, λ e g. (tt, tt, λ v i. (refl, tt)))
sound_body (MoreOr before) apart h = λ x. sound_if (Gives (MoreOr before)) apart apart terminals.Or (kind_of x) _ _ refl (tt, tt, λ e g. (tt, tt, λ v i. (refl, tt))) (refl, tt)
sound_body ConditionalAnd apart h = (tt, tt, λ e g. λ x. sound_if (Gives ConditionalAnd) apart apart terminals.And (kind_of x) _ _ refl (tt, tt, λ v g. (refl, tt)) (refl, tt))
sound_body (AndOperands first) apart h = (tt, tt, λ e g. (tt, tt, λ v i. (refl, tt)))
sound_body (MoreAnd before) apart h = λ x. sound_if (Gives (MoreAnd before)) apart apart terminals.And (kind_of x) _ _ refl (tt, tt, λ e g. (tt, tt, λ v i. (refl, tt))) (refl, tt)
sound_body Relational apart h = (tt, tt, λ e g. λ x. sound_relational e apart (kind_of x))
sound_body Additive apart h = (tt, tt, λ e g. λ x. sound_additive e apart (kind_of x))
sound_body (Operands sign) apart h = (tt, tt, λ e g. (tt, tt, λ v i. (refl, tt)))
sound_body (MoreOperands before) apart h = λ x. sound_more_operands before apart (kind_of x)
sound_body Unary apart h = λ x. sound_unary apart (kind_of x)
sound_body Primary apart h = λ x. sound_primary apart (kind_of x)
sound_body Bracketed apart h = sound_need (Gives Bracketed) apart apart terminals.OpenParen _ refl (tt, tt, λ e g. sound_need (Gives Bracketed) apart apart terminals.ShutParen _ refl (refl, tt))
sound_body BoundVariable apart h = sound_need (Gives BoundVariable) apart apart terminals.OpenParen _ refl (λ x. sound_bound apart (kind_of x))
sound_body TermPair apart h = sound_need (Gives TermPair) apart apart terminals.OpenParen _ refl (tt, tt, λ a g. sound_need (Gives TermPair) apart apart terminals.Comma _ refl (tt, tt, λ b i. sound_need (Gives TermPair) apart apart terminals.ShutParen _ refl (refl, tt)))

-- ---- so the blocks fit

module _ (stop : Fault) where
  abbrev Ends : (m : Nonterminal) → Bool → Bool → E m → Type 0
  Ends m now end (Done v us) = (now ≡ end) × Gives m v
  Ends m now end (Rejected x) = Unit {0}

  record Fits (m : Nonterminal) (p : G (Value m)) (ts : List Token) (o : E m) (r : Reads (sparql stop) m p ts o) (apart end : Bool) : Type 0 where
    pub blocks : BlocksFit stop m p ts o r apart
    pub ends : Ends m (apart_behind stop m p ts o r apart) end o

  -- what has been seen is the first token, if anything
  abbrev Seen : Kind → List Token → Type 0
  Seen seen ts = (seen ≡ kinds.Unknown) ⊎ (seen ≡ kind_of (first_of_list ts))

  fits : (m : Nonterminal) (p : G (Value m)) (ts : List Token) (o : E m) (apart end : Bool) (seen : Kind) → Sound (Gives m) apart end seen p → Seen seen ts → (r : Reads (sparql stop) m p ts o) → Fits m p ts o r apart end
  fits m (Return v) ts _ apart end seen s see give = record { blocks = tt; ends = s }
  fits m Fail ts _ apart end seen s see misfit = record { blocks = tt; ends = tt }
  fits m (Advance p) (t ∷ ts) o apart end seen s see (skip r) = elim see [
    | inl unseen ↦ absurd (let e = ap is_known unseen in let f = s.0 in cc)
    | inr is ↦
        let f = fits m p ts o (is_brace t.kind || apart) end kinds.Unknown (subst (λ k. Sound (Gives m) (is_brace k || apart) end kinds.Unknown p) is s.1) (inl refl) r in
        record { blocks = f.blocks; ends = f.ends }
  ]
  fits m (Advance p) [] _ apart end seen s see skip_end = record { blocks = tt; ends = tt }
  fits m (Peek by') ts o apart end seen s see (look r) =
      let f = fits m (by' (first_of_list ts)) ts o apart end (kind_of (first_of_list ts)) (s (first_of_list ts)) (inr refl) r in
      record { blocks = f.blocks; ends = f.ends }
  fits m (Call q k) ts o apart end seen s see (call {us} {v} r more) =
      let first = fits q (body q) ts (Done v us) apart (leaves q apart) kinds.Unknown (sound_body q apart s.1) (inl refl) r in
      let e : cond (is_block q) false (apart_behind stop q (body q) ts (Done v us) r apart) ≡ behind q apart = ap (λ b. cond (is_block q) false b) first.ends.0 ∙ behind_is q apart in
      let second : Fits m (k v) us o more (cond (is_block q) false (apart_behind stop q (body q) ts (Done v us) r apart)) end =
      subst (λ b. Fits m (k v) us o more b end) (sym e) (fits m (k v) us o (behind q apart) end kinds.Unknown (s.2 v first.ends.1) (inl refl) more) in
      record { blocks = (s.0, first.blocks, second.blocks); ends = second.ends }
  fits m (Call q k) ts _ apart end seen s see (call_not {x} r) =
      let first = fits q (body q) ts (Rejected x) apart (leaves q apart) kinds.Unknown (sound_body q apart s.1) (inl refl) r in
      record { blocks = (s.0, first.blocks); ends = tt }

  pub blocks_fit : (request : Request) (ts rest : List Token) (r : Reads (sparql stop) QueryUnit (body QueryUnit) ts (Done request rest)) → BlocksFit stop QueryUnit (body QueryUnit) ts (Done request rest) r true
  blocks_fit request ts rest r = (fits QueryUnit (body QueryUnit) ts (Done request rest) true true kinds.Unknown (sound_body QueryUnit true tt) (inl refl) r).blocks

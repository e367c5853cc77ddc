-- What the grammar of queries reads past the word of a declaration is what the declaration names.
use Rattle.std.proofs.Common.{◌≡◌, List, [], ◌∷◌, ◌++◌, Bool, true, false, None, ℕ, refl, subst}
use Rattle.rows_core.specs.declared.pattern.Spot.{Spot}
use Rattle.rows_core.specs.declared.pattern.TriplePattern.{TriplePattern}
use Rattle.expr_eval.specs.declared.expr.Expr.{Expr}
use Rattle.expr_eval.specs.declared.expr.Sign.{Sign}
use Rattle.algebra_translation.specs.Translation.{PartialGroup}
use Rattle.grammar_model.specs.Parsers.{Advance, Done, Reads, first_of_list}
use Rattle.sparql_resolve.specs.declared.fault.Fault.{Fault}
use Rattle.sparql_resolve.specs.declared.kind.Kind.{Kind}
use Rattle.sparql_resolve.specs.declared.kind.Kind.TheVariants as kinds
use Rattle.sparql_resolve.specs.declared.kind.Token.{Token}
use Rattle.sparql_parser.specs.declared.tokens.Terminal.{Terminal}
use Rattle.sparql_parser.specs.declared.tokens.Terminal.TheVariants as terminals
use Rattle.sparql_parser.specs.Grammar.{Nonterminal, G, Request, body, sparql, kind_of, need, need_by, choose, is_terminal, is_iri_ref, is_namespace, query_by, select_by, variables_by, condition_by, element_by, constraint_by, verb_by, signed_by, term_by, datatype_by, literal_by, object_by, subject_by, relational_by, additive_by, more_operands_by, unary_by, bound_by, primary_by, begins_condition, begins_term, begins_verb}
use Rattle.sparql_parser.specs.Grammar.{QueryUnit, SelectQuery, SelectBody, SelectClause, Variables, SolutionModifier, OrderClause, MoreConditions, OrderCondition, GroupGraphPattern, GroupGraphPatternSub, TriplesOrElements, Elements, AfterElement, Filter, OptionalGraphPattern, GroupElement, GroupOrUnionGraphPattern, MoreGroups, Constraint, TriplesBlock, MoreTriples, TriplesSameSubject, BlankSubject, PropertyList, MoreProperties, VerbObjects, ObjectList, MoreObjects, Object, BlankObject, VarOrTerm, SignedNumber, RdfLiteral, Expression, OrOperands, MoreOr, ConditionalAnd, AndOperands, MoreAnd, Relational, Additive, Operands, MoreOperands, Unary, Primary, Bracketed, BoundVariable, TermPair}
use Rattle.definition_laws.specs.Declarations.{DeclarationsFit, behind_first, is_base, is_prefix}
use Rattle.definition_laws.proofs.Followed.{Complete as CompleteBy, Sound as SoundBy, Leads as LeadsBy, sound_past, reads_complete}

-- ---- what a declaration's word leaves due

data Due : Type 0 where
  Free AnIri ANamespace : Due

abbrev allowed : Due → Kind → Bool
allowed Free kinds.Unknown = false
allowed Free _ = true
allowed AnIri k = is_iri_ref k
allowed ANamespace k = is_namespace k

abbrev next : Due → Kind → Due
next Free kinds.Base = AnIri
next Free kinds.Prefix = ANamespace
next Free _ = Free
next AnIri k = Free
next ANamespace k = AnIri

abbrev Complete : Due → List Token → Type 0
Complete due ts = CompleteBy kind_of Free allowed next due ts

abbrev Sound : {A : Type 0} → Due → Kind → G A → Type 0
Sound due seen p = SoundBy kind_of Free allowed next due seen p

abbrev Leads : Due → (Kind → Bool) → Due → Type 0
Leads due test after = LeadsBy kind_of Free allowed next due test after

none_past : (due : Due) → allowed due (kind_of None) ≡ true → ⊥
none_past Free e = absurd cc
none_past AnIri e = absurd cc
none_past ANamespace e = absurd cc

-- ---- tokens behind which nothing is due fit

iri_first : (ts : List Token) → Complete AnIri ts → is_iri_ref (kind_of (first_of_list ts)) ≡ true
iri_first [] h = absurd cc
iri_first (t ∷ ts) h = h.0

namespace_first : (ts : List Token) → Complete ANamespace ts → (is_namespace (kind_of (first_of_list ts)) ≡ true) × (is_iri_ref (kind_of (first_of_list (behind_first ts))) ≡ true)
namespace_first [] h = absurd cc
namespace_first (t ∷ ts) h = (h.0, iri_first ts h.1)

base_wants : (k : Kind) (due : Due) → allowed due k ≡ true → is_base k ≡ true → next due k ≡ AnIri
base_wants kinds.Base Free a e = refl
base_wants k due a e = absurd cc

prefix_wants : (k : Kind) (due : Due) → allowed due k ≡ true → is_prefix k ≡ true → next due k ≡ ANamespace
prefix_wants kinds.Prefix Free a e = refl
prefix_wants k due a e = absurd cc

complete_fits : (due : Due) (ts : List Token) → Complete due ts → DeclarationsFit ts
complete_fits due [] h = tt
complete_fits due (t ∷ ts) h = (
  λ e. iri_first ts (subst (λ d. Complete d ts) (base_wants t.kind due h.0 e) h.1),
  λ e. namespace_first ts (subst (λ d. Complete d ts) (prefix_wants t.kind due h.0 e) h.1),
  complete_fits (next due t.kind) ts h.1,
)

-- ---- no terminal but the words themselves is the word of a declaration

no_base : (t : Terminal) → is_terminal t kinds.Base ≡ true → ⊥
unfolding is_terminal
no_base terminals.IriRef e = absurd cc
no_base _ e = absurd cc

no_prefix : (t : Terminal) → is_terminal t kinds.Prefix ≡ true → ⊥
unfolding is_terminal
no_prefix terminals.IriRef e = absurd cc
no_prefix _ e = absurd cc

no_unknown : (t : Terminal) → is_terminal t kinds.Unknown ≡ true → ⊥
unfolding is_terminal
no_unknown terminals.IriRef e = absurd cc
no_unknown _ e = absurd cc

past_terminal : (t : Terminal) → Leads Free (is_terminal t) Free
past_terminal t kinds.Base e = absurd (no_base t e)
past_terminal t kinds.Prefix e = absurd (no_prefix t e)
past_terminal t kinds.Unknown e = absurd (no_unknown t e)
past_terminal t _ e = (refl, refl)

past_iri : Leads AnIri (is_terminal terminals.IriRef) Free
unfolding is_terminal
past_iri k e = (e, refl)

past_namespace : Leads ANamespace (is_terminal terminals.Namespace) AnIri
unfolding is_terminal
past_namespace k e = (e, refl)

-- ---- ways of the grammar's programs

sound_choose : {A : Type 0} (k : Kind) (b : Bool) (p q : G A) → Sound Free k p → Sound Free k q → Sound Free k (choose b p q)
sound_choose k true p q hp hq = hp
sound_choose k false p q hp hq = hq

sound_need_by : {A : Type 0} (due : Due) (k : Kind) (b : Bool) (p : G A) → (b ≡ true → Sound due k (Advance p)) → Sound due k (need_by b p)
sound_need_by due k true p h = h refl
sound_need_by due k false p h = tt

sound_need_from : {A : Type 0} (due after : Due) (t : Terminal) (p : G A) → Leads due (is_terminal t) after → Sound after kinds.Unknown p → Sound due kinds.Unknown (need t p)
sound_need_from due after t p leads h = λ x. sound_need_by due (kind_of x) (is_terminal t (kind_of x)) p (sound_past kind_of Free allowed next due after (is_terminal t) p (kind_of x) leads h)

sound_need : {A : Type 0} (t : Terminal) (p : G A) → Sound Free kinds.Unknown p → Sound Free kinds.Unknown (need t p)
sound_need t p h = sound_need_from Free Free t p (past_terminal t) h

-- past the next token if it is this terminal, or another way
sound_if_by : {A : Type 0} (k : Kind) (b : Bool) (p q : G A) → (b ≡ true → Sound Free k p) → Sound Free k q → Sound Free k (choose b p q)
sound_if_by k true p q hp hq = hp refl
sound_if_by k false p q hp hq = hq

sound_if : {A : Type 0} (t : Terminal) (k : Kind) (p q : G A) → Sound Free kinds.Unknown p → Sound Free k q → Sound Free k (choose (is_terminal t k) (Advance p) q)
sound_if t k p q hp hq = sound_if_by k (is_terminal t k) (Advance p) q (sound_past kind_of Free allowed next Free Free (is_terminal t) p k (past_terminal t) hp) hq

-- ---- the parts of the grammar are sound

sound_query : (k : Kind) → Sound Free k (query_by k)
sound_query kinds.Base = (refl, sound_need_from AnIri Free terminals.IriRef _ past_iri (refl, λ v. refl))
sound_query kinds.Prefix = (refl, sound_need_from ANamespace AnIri terminals.Namespace _ past_namespace (sound_need_from AnIri Free terminals.IriRef _ past_iri (refl, λ v. refl)))
sound_query kinds.Select = (refl, (refl, λ v. refl))
sound_query _ = tt

sound_select : (k : Kind) → Sound Free k (select_by k)
sound_select (kinds.Var n) = (refl, λ all. refl)
sound_select kinds.Star = (refl, refl)
sound_select _ = tt

sound_variables : (before : List ℕ) (k : Kind) → Sound Free k (variables_by before k)
sound_variables before (kinds.Var n) = (refl, (refl, λ v. refl))
sound_variables before _ = refl

sound_condition : (k : Kind) → Sound Free k (condition_by k)
sound_condition (kinds.Var n) = (refl, refl)
sound_condition kinds.OpenParen = (refl, λ e. refl)
sound_condition kinds.Asc = (refl, (refl, λ e. refl))
sound_condition kinds.Desc = (refl, (refl, λ e. refl))
sound_condition _ = tt

sound_element : (s : PartialGroup) (k : Kind) → Sound Free k (element_by s k)
sound_element s kinds.ShutBrace = (refl, refl)
sound_element s kinds.Filter = (refl, (refl, λ v. refl))
sound_element s kinds.Optional = (refl, (refl, λ v. refl))
sound_element s kinds.OpenBrace = (refl, (refl, λ v. refl))
sound_element s _ = tt

sound_constraint : (k : Kind) → Sound Free k (constraint_by k)
sound_constraint kinds.OpenParen = (refl, λ v. refl)
sound_constraint kinds.Bound = (refl, λ v. refl)
sound_constraint kinds.SameTerm = (refl, λ v. refl)
sound_constraint (kinds.Function f) = (refl, λ v. refl)
sound_constraint _ = tt

sound_verb : (s : Spot) (before : List TriplePattern) (k : Kind) → Sound Free k (verb_by s before k)
sound_verb s before (kinds.Var n) = (refl, (refl, λ v. refl))
sound_verb s before (kinds.IriRef iri) = (refl, (refl, λ v. refl))
sound_verb s before (kinds.Name iri) = (refl, (refl, λ v. refl))
sound_verb s before kinds.A = (refl, (refl, λ v. refl))
sound_verb s before _ = tt

sound_signed : (sign : Sign) (k : Kind) → Sound Free k (signed_by sign k)
sound_signed sign (kinds.Number datatype lexical touches) = sound_need_by Free (kinds.Number datatype lexical touches) touches _ (λ e. (refl, refl))
sound_signed sign _ = tt

sound_term : (k : Kind) → Sound Free k (term_by k)
sound_term (kinds.Var n) = (refl, refl)
sound_term (kinds.IriRef iri) = (refl, refl)
sound_term (kinds.Name iri) = (refl, refl)
sound_term (kinds.Label n) = (refl, refl)
sound_term (kinds.Text text) = (refl, (refl, λ t. refl))
sound_term (kinds.Number datatype lexical touches) = (refl, refl)
sound_term (kinds.Sign sign) = (refl, (refl, λ v. refl))
sound_term (kinds.Boolean truth) = (refl, refl)
sound_term _ = tt

sound_datatype : (text : List ℕ) (k : Kind) → Sound Free k (datatype_by text k)
sound_datatype text (kinds.IriRef iri) = (refl, refl)
sound_datatype text (kinds.Name iri) = (refl, refl)
sound_datatype text _ = tt

sound_literal : (text : List ℕ) (k : Kind) → Sound Free k (literal_by text k)
sound_literal text (kinds.Tag tag) = (refl, refl)
sound_literal text kinds.Carets = (refl, λ x. sound_datatype text (kind_of x))
sound_literal text _ = refl

sound_object : (before : List TriplePattern) (k : Kind) → Sound Free k (object_by before k)
sound_object before (kinds.OpenSquare n) = (refl, (refl, λ v. refl))
sound_object before _ = (refl, λ o. refl)

sound_subject : (before : List TriplePattern) (k : Kind) → Sound Free k (subject_by before k)
sound_subject before (kinds.OpenSquare n) = (refl, (refl, λ v. refl))
sound_subject before _ = (refl, λ s. (refl, λ v. refl))

sound_relational : (a : Expr) (k : Kind) → Sound Free k (relational_by a k)
sound_relational a (kinds.Compare op) = (refl, (refl, λ b. refl))
sound_relational a _ = refl

sound_additive : (first : Expr) (k : Kind) → Sound Free k (additive_by first k)
sound_additive first (kinds.Sign sign) = (refl, (refl, λ rest. refl))
sound_additive first _ = refl

sound_more_operands : (before : List (Sign × Expr)) (k : Kind) → Sound Free k (more_operands_by before k)
sound_more_operands before (kinds.Sign sign) = (refl, (refl, λ e. (refl, λ v. refl)))
sound_more_operands before _ = refl

sound_unary : (k : Kind) → Sound Free k (unary_by k)
sound_unary kinds.Bang = (refl, (refl, λ e. refl))
sound_unary (kinds.Sign sign) = (refl, (refl, λ e. refl))
sound_unary _ = (refl, λ v. refl)

sound_bound : (k : Kind) → Sound Free k (bound_by k)
sound_bound (kinds.Var n) = (refl, sound_need terminals.ShutParen _ refl)
sound_bound _ = tt

sound_primary : (k : Kind) → Sound Free k (primary_by k)
sound_primary kinds.OpenParen = (refl, λ v. refl)
sound_primary kinds.Bound = (refl, (refl, λ v. refl))
sound_primary kinds.SameTerm = (refl, (refl, λ v. refl))
sound_primary (kinds.Function f) = (refl, (refl, λ e. refl))
sound_primary (kinds.IriRef iri) = (refl, refl)
sound_primary (kinds.Name iri) = (refl, refl)
sound_primary (kinds.Text text) = (refl, (refl, λ t. refl))
sound_primary (kinds.Number datatype lexical touches) = (refl, refl)
sound_primary (kinds.Boolean truth) = (refl, refl)
sound_primary (kinds.Var n) = (refl, refl)
sound_primary _ = tt

sound_body : (q : Nonterminal) → Sound Free kinds.Unknown (body q)
sound_body QueryUnit = λ x. sound_query (kind_of x)
sound_body SelectQuery = λ x. sound_if terminals.Distinct (kind_of x) _ _ (refl, λ v. refl) (refl, λ v. refl)
sound_body (SelectBody distinct) = (refl, λ select. λ x. sound_if terminals.Where (kind_of x) _ _ (refl, λ g. (refl, λ order. refl)) (refl, λ g. (refl, λ order. refl)))
sound_body SelectClause = λ x. sound_select (kind_of x)
sound_body (Variables before) = λ x. sound_variables before (kind_of x)
sound_body SolutionModifier = λ x. sound_if terminals.Order (kind_of x) _ _ (sound_need terminals.By _ (refl, λ keys. sound_need terminals.End _ refl)) (sound_need terminals.End _ refl)
sound_body OrderClause = (refl, λ k. (refl, λ v. refl))
sound_body (MoreConditions before) = λ x. sound_choose (kind_of x) (begins_condition (kind_of x)) _ _ (refl, λ k. (refl, λ v. refl)) refl
sound_body OrderCondition = λ x. sound_condition (kind_of x)
sound_body GroupGraphPattern = sound_need terminals.OpenBrace _ (refl, λ v. refl)
sound_body GroupGraphPatternSub = (refl, λ v. refl)
sound_body (TriplesOrElements s) = λ x. sound_choose (kind_of x) (begins_term (kind_of x)) _ _ (refl, λ ps. (refl, λ v. refl)) (refl, λ v. refl)
sound_body (Elements s) = λ x. sound_element s (kind_of x)
sound_body (AfterElement s) = λ x. sound_if terminals.Dot (kind_of x) _ _ (refl, λ v. refl) (refl, λ v. refl)
sound_body (Filter s) = (refl, λ e. (refl, λ v. refl))
sound_body (OptionalGraphPattern s) = (refl, λ g. (refl, λ v. refl))
sound_body (GroupElement s) = (refl, λ a. (refl, λ v. refl))
sound_body GroupOrUnionGraphPattern = (refl, λ g. (refl, λ v. refl))
sound_body (MoreGroups left) = λ x. sound_if terminals.Union (kind_of x) _ _ (refl, λ g. (refl, λ v. refl)) refl
sound_body Constraint = λ x. sound_constraint (kind_of x)
sound_body (TriplesBlock before) = (refl, λ ps. (refl, λ v. refl))
sound_body (MoreTriples before) = λ x. sound_if terminals.Dot (kind_of x) _ _ (λ y. sound_choose (kind_of y) (begins_term (kind_of y)) _ _ (refl, λ ps. (refl, λ v. refl)) refl) refl
sound_body (TriplesSameSubject before) = λ x. sound_subject before (kind_of x)
sound_body (BlankSubject n before) = λ x. sound_if terminals.ShutSquare (kind_of x) _ _ (refl, λ v. refl)
    (refl, λ ps. sound_need terminals.ShutSquare _ (λ y. sound_choose (kind_of y) (begins_verb (kind_of y)) _ _ (refl, λ v. refl) refl))
sound_body (PropertyList s before) = (refl, λ ps. (refl, λ v. refl))
sound_body (MoreProperties s before) =
    λ x. sound_if terminals.Semicolon (kind_of x) _ _ (λ y. sound_choose (kind_of y) (begins_verb (kind_of y)) _ _ (refl, λ ps. (refl, λ v. refl)) (refl, λ v. refl)) refl
sound_body (VerbObjects s before) = λ x. sound_verb s before (kind_of x)
sound_body (ObjectList s p before) = (refl, λ x. (refl, λ v. refl))
sound_body (MoreObjects s p before) = λ x. sound_if terminals.Comma (kind_of x) _ _ (refl, λ v. refl) refl
sound_body (Object before) = λ x. sound_object before (kind_of x)
sound_body (BlankObject n before) = λ x. sound_if terminals.ShutSquare (kind_of x) _ _ refl (refl, λ ps. sound_need terminals.ShutSquare _ refl)
sound_body VarOrTerm = λ x. sound_term (kind_of x)
sound_body (SignedNumber sign) = λ x. sound_signed sign (kind_of x)
sound_body (RdfLiteral text) = λ x. sound_literal text (kind_of x)
sound_body Expression = (refl, λ e. λ x. sound_if terminals.Or (kind_of x) _ _ (refl, λ v. refl) refl)
sound_body (OrOperands first) = (refl, λ e. (refl, λ v. refl))
sound_body (MoreOr before) = λ x. sound_if terminals.Or (kind_of x) _ _ (refl, λ e. (refl, λ v. refl)) refl
sound_body ConditionalAnd = (refl, λ e. λ x. sound_if terminals.And (kind_of x) _ _ (refl, λ v. refl) refl)
sound_body (AndOperands first) = (refl, λ e. (refl, λ v. refl))
sound_body (MoreAnd before) = λ x. sound_if terminals.And (kind_of x) _ _ (refl, λ e. (refl, λ v. refl)) refl
sound_body Relational = (refl, λ e. λ x. sound_relational e (kind_of x))
sound_body Additive = (refl, λ e. λ x. sound_additive e (kind_of x))
sound_body (Operands sign) = (refl, λ e. (refl, λ v. refl))
sound_body (MoreOperands before) = λ x. sound_more_operands before (kind_of x)
sound_body Unary = λ x. sound_unary (kind_of x)
sound_body Primary = λ x. sound_primary (kind_of x)
sound_body Bracketed = sound_need terminals.OpenParen _ (refl, λ e. sound_need terminals.ShutParen _ refl)
sound_body BoundVariable = sound_need terminals.OpenParen _ (λ x. sound_bound (kind_of x))
sound_body TermPair = sound_need terminals.OpenParen _ (refl, λ a. sound_need terminals.Comma _ (refl, λ b. sound_need terminals.ShutParen _ refl))

-- ---- so what they read is complete

pub declarations_fit : (stop : Fault) (request : Request) (ts rest : List Token) → Reads (sparql stop) QueryUnit (body QueryUnit) ts (Done request rest) → (read : List Token) × (ts ≡ read ++ rest) × DeclarationsFit read
declarations_fit stop request ts rest r =
    let is = reads_complete (sparql stop) kind_of Free allowed next none_past sound_body QueryUnit ts rest request r in
    (is.0, is.1, complete_fits Free is.0 is.2)

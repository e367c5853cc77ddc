-- What the grammar of Turtle reads past the word of a directive is what the directive names.
use Rattle.std.proofs.Common.{◌≡◌, List, [], ◌∷◌, ◌++◌, Bool, true, false, Option, Some, None, ℕ, refl, subst}
use Rattle.rdf_terms.specs.declared.term.Term.{Term}
use Rattle.rdf_terms.specs.declared.triple.Triple.{Triple}
use Rattle.grammar_model.specs.Parsers.{Advance, Done, Reads, first_of_list}
use Rattle.turtle_reader.specs.declared.token_fault.Fault.{Fault}
use Rattle.turtle_reader.specs.declared.kind.Kind.{Kind}
use Rattle.turtle_reader.specs.declared.kind.Kind.TheVariants as kinds
use Rattle.turtle_reader.specs.declared.kind.Token.{Token}
use Rattle.turtle_reader.specs.Grammar.{Nonterminal, TurtleDoc, Statement, Triples, BlankSubject, PredicateObjectList, VerbObjects, MorePredicates, ObjectList, MoreObjects, Object, BlankObject, RDFLiteral, Collection, Items, Item, MoreItems, G, body, turtle, kind_of, need, need_by, choose, begins_verb, is_comma, is_dot, is_end, is_iri_ref, is_namespace, is_semicolon, is_shut_paren, is_shut_square, literal_by, datatype_by, statement_by, triples_by, verb_by, object_by, collection_of, more_items_of}
use Rattle.definition_laws.specs.Directives.{DirectivesFit, behind_first, is_base_word, is_prefix_word}
use Rattle.definition_laws.proofs.Followed.{Complete as CompleteBy, Sound as SoundBy, Leads as LeadsBy, sound_past, reads_complete}

-- ---- what a directive's word leaves due

data Due : Type 0 where
  Free AnIri ANamespace : Due

abbrev allowed : Due → Kind → Bool
allowed Free kinds.Unknown = false
allowed Free _ = true
allowed AnIri k = is_iri_ref k
allowed ANamespace k = is_namespace k

abbrev next : Due → Kind → Due
next Free kinds.AtBase = AnIri
next Free kinds.Base = AnIri
next Free kinds.AtPrefix = ANamespace
next Free kinds.Prefix = ANamespace
next Free _ = Free
next AnIri k = Free
next ANamespace k = AnIri

abbrev Complete : Due → List Token → Type 0
Complete due ts = CompleteBy kind_of Free allowed next due ts

abbrev Sound : {A : Type 0} → Due → Kind → G A → Type 0
Sound due seen p = SoundBy kind_of Free allowed next due seen p

abbrev Leads : Due → (Kind → Bool) → Due → Type 0
Leads due test after = LeadsBy kind_of Free allowed next due test after

none_past : (due : Due) → allowed due (kind_of None) ≡ true → ⊥
none_past Free e = absurd cc
none_past AnIri e = absurd cc
none_past ANamespace e = absurd cc

-- ---- tokens behind which nothing is due fit

iri_first : (ts : List Token) → Complete AnIri ts → is_iri_ref (kind_of (first_of_list ts)) ≡ true
iri_first [] h = absurd cc
iri_first (t ∷ ts) h = h.0

namespace_first : (ts : List Token) → Complete ANamespace ts → (is_namespace (kind_of (first_of_list ts)) ≡ true) × (is_iri_ref (kind_of (first_of_list (behind_first ts))) ≡ true)
namespace_first [] h = absurd cc
namespace_first (t ∷ ts) h = (h.0, iri_first ts h.1)

base_wants : (k : Kind) (due : Due) → allowed due k ≡ true → is_base_word k ≡ true → next due k ≡ AnIri
base_wants kinds.AtBase Free a e = refl
base_wants kinds.Base Free a e = refl
base_wants k due a e = absurd cc

prefix_wants : (k : Kind) (due : Due) → allowed due k ≡ true → is_prefix_word k ≡ true → next due k ≡ ANamespace
prefix_wants kinds.AtPrefix Free a e = refl
prefix_wants kinds.Prefix Free a e = refl
prefix_wants k due a e = absurd cc

complete_fits : (due : Due) (ts : List Token) → Complete due ts → DirectivesFit ts
complete_fits due [] h = tt
complete_fits due (t ∷ ts) h = (
  λ e. iri_first ts (subst (λ d. Complete d ts) (base_wants t.kind due h.0 e) h.1),
  λ e. namespace_first ts (subst (λ d. Complete d ts) (prefix_wants t.kind due h.0 e) h.1),
  complete_fits (next due t.kind) ts h.1,
)

-- ---- ways of the grammar's programs

sound_choose : {A : Type 0} (due : Due) (k : Kind) (b : Bool) (p q : G A) → (b ≡ true → Sound due k p) → Sound due k q → Sound due k (choose b p q)
sound_choose due k true p q hp hq = hp refl
sound_choose due k false p q hp hq = hq

sound_need_by : {A : Type 0} (due : Due) (k : Kind) (b : Bool) (p : G A) → (b ≡ true → Sound due k (Advance p)) → Sound due k (need_by b p)
sound_need_by due k true p h = h refl
sound_need_by due k false p h = tt

sound_need : {A : Type 0} (due after : Due) (test : Kind → Bool) (p : G A) → Leads due test after → Sound after kinds.Unknown p → Sound due kinds.Unknown (need test p)
sound_need due after test p leads h = λ x. sound_need_by due (kind_of x) (test (kind_of x)) p (sound_past kind_of Free allowed next due after test p (kind_of x) leads h)

-- past the next token if it is such a one, or another way
sound_if : {A : Type 0} (test : Kind → Bool) (k : Kind) (p q : G A) → Leads Free test Free → Sound Free kinds.Unknown p → Sound Free k q → Sound Free k (choose (test k) (Advance p) q)
sound_if test k p q leads hp hq = sound_choose Free k (test k) (Advance p) q (sound_past kind_of Free allowed next Free Free test p k leads hp) hq

past_dot : Leads Free is_dot Free
past_dot kinds.Dot e = (refl, refl)
past_dot _ e = absurd cc

past_comma : Leads Free is_comma Free
past_comma kinds.Comma e = (refl, refl)
past_comma _ e = absurd cc

past_semicolon : Leads Free is_semicolon Free
past_semicolon kinds.Semicolon e = (refl, refl)
past_semicolon _ e = absurd cc

past_square : Leads Free is_shut_square Free
past_square kinds.ShutSquare e = (refl, refl)
past_square _ e = absurd cc

past_paren : Leads Free is_shut_paren Free
past_paren kinds.ShutParen e = (refl, refl)
past_paren _ e = absurd cc

past_iri : Leads AnIri is_iri_ref Free
past_iri k e = (e, refl)

past_namespace : Leads ANamespace is_namespace AnIri
past_namespace k e = (e, refl)

-- ---- the parts of the grammar are sound

sound_datatype : (lexical : List ℕ) (k : Kind) → Sound Free k (datatype_by lexical k)
sound_datatype lexical (kinds.IriRef i) = (refl, refl)
sound_datatype lexical (kinds.Name i) = (refl, refl)
sound_datatype lexical _ = tt

sound_literal : (lexical : List ℕ) (k : Kind) → Sound Free k (literal_by lexical k)
sound_literal lexical (kinds.Tag tag) = (refl, refl)
sound_literal lexical kinds.Carets = (refl, λ x. sound_datatype lexical (kind_of x))
sound_literal lexical _ = refl

module _ (doc : List ℕ) where
  sound_statement : (before : List Triple) (k : Kind) → Sound Free k (statement_by doc before k)
  sound_statement before kinds.AtPrefix = (refl, sound_need _ _ is_namespace _ past_namespace (sound_need _ _ is_iri_ref _ past_iri (sound_need _ _ is_dot _ past_dot refl)))
  sound_statement before kinds.AtBase = (refl, sound_need _ _ is_iri_ref _ past_iri (sound_need _ _ is_dot _ past_dot refl))
  sound_statement before kinds.Prefix = (refl, sound_need _ _ is_namespace _ past_namespace (sound_need _ _ is_iri_ref _ past_iri refl))
  sound_statement before kinds.Base = (refl, sound_need _ _ is_iri_ref _ past_iri refl)
  sound_statement before _ = (refl, λ ts. sound_need _ _ is_dot _ past_dot refl)

  sound_triples : (before : List Triple) (k : Kind) → Sound Free k (triples_by doc before k)
  sound_triples before (kinds.IriRef i) = (refl, (refl, λ v. refl))
  sound_triples before (kinds.Name i) = (refl, (refl, λ v. refl))
  sound_triples before (kinds.Label n) = (refl, (refl, λ v. refl))
  sound_triples before (kinds.OpenSquare n) = (refl, (refl, λ v. refl))
  sound_triples before kinds.OpenParen = (refl, (refl, λ x. (refl, λ v. refl)))
  sound_triples before _ = tt

  sound_verb : (s : Term) (before : List Triple) (k : Kind) → Sound Free k (verb_by doc s before k)
  sound_verb s before (kinds.IriRef i) = (refl, (refl, λ v. refl))
  sound_verb s before (kinds.Name i) = (refl, (refl, λ v. refl))
  sound_verb s before kinds.A = (refl, (refl, λ v. refl))
  sound_verb s before _ = tt

  sound_object : (before : List Triple) (k : Kind) → Sound Free k (object_by doc before k)
  sound_object before (kinds.IriRef i) = (refl, refl)
  sound_object before (kinds.Name i) = (refl, refl)
  sound_object before (kinds.Label n) = (refl, refl)
  sound_object before (kinds.OpenSquare n) = (refl, (refl, λ v. refl))
  sound_object before kinds.OpenParen = (refl, (refl, λ v. refl))
  sound_object before (kinds.Text lexical) = (refl, (refl, λ v. refl))
  sound_object before (kinds.Literal datatype lexical) = (refl, refl)
  sound_object before _ = tt

  sound_collection : (before : List Triple) (x : Option Token) → Sound Free (kind_of x) (collection_of doc before x)
  sound_collection before None = tt
  sound_collection before (Some t) = sound_if is_shut_paren t.kind _ _ past_paren refl (refl, λ v. refl)

  sound_more_items : (cell : ℕ) (before : List Triple) (x : Option Token) → Sound Free (kind_of x) (more_items_of doc cell before x)
  sound_more_items cell before None = tt
  sound_more_items cell before (Some t) = sound_if is_shut_paren t.kind _ _ past_paren refl (refl, λ v. refl)

  sound_body : (q : Nonterminal) → Sound Free kinds.Unknown (body doc q)
  sound_body (TurtleDoc before) = λ x. sound_choose _ _ (is_end (kind_of x)) _ _ (λ e. refl) (refl, λ ts. (refl, λ v. refl))
  sound_body (Statement before) = λ x. sound_statement before (kind_of x)
  sound_body (Triples before) = λ x. sound_triples before (kind_of x)
  sound_body (BlankSubject n before) = λ x. sound_if is_shut_square (kind_of x) _ _ past_square (refl, λ v. refl)
      (refl, λ ts. sound_need _ _ is_shut_square _ past_square (λ y. sound_choose _ _ (begins_verb (kind_of y)) _ _ (λ e. (refl, λ v. refl)) refl))
  sound_body (PredicateObjectList s before) = (refl, λ ts. (refl, λ v. refl))
  sound_body (VerbObjects s before) = λ x. sound_verb s before (kind_of x)
  sound_body (MorePredicates s before) = λ x. sound_if is_semicolon (kind_of x) _ _ past_semicolon (λ y. sound_choose _ _ (begins_verb (kind_of y)) _ _ (λ e. (refl, λ ts. (refl, λ v. refl))) (refl, λ v. refl)) refl
  sound_body (ObjectList s p before) = (refl, λ x. (refl, λ v. refl))
  sound_body (MoreObjects s p before) = λ x. sound_if is_comma (kind_of x) _ _ past_comma (refl, λ v. refl) refl
  sound_body (Object before) = λ x. sound_object before (kind_of x)
  sound_body (BlankObject n before) = λ x. sound_if is_shut_square (kind_of x) _ _ past_square refl
      (refl, λ ts. sound_need _ _ is_shut_square _ past_square refl)
  sound_body (RDFLiteral lexical) = λ x. sound_literal lexical (kind_of x)
  sound_body (Collection before) = λ x. sound_collection before x
  sound_body (Items cell before) = (refl, λ ts. (refl, λ v. refl))
  sound_body (Item cell before) = (refl, λ x. refl)
  sound_body (MoreItems cell before) = λ x. sound_more_items cell before x

  -- ---- so what they read is complete

  pub directives_fit : (stop : Fault) (before triples : List Triple) (ts rest : List Token) → Reads (turtle doc stop) (TurtleDoc before) (body doc (TurtleDoc before)) ts (Done triples rest) → (read : List Token) × (ts ≡ read ++ rest) × DirectivesFit read
  directives_fit stop before triples ts rest r =
      let is = reads_complete (turtle doc stop) kind_of Free allowed next none_past sound_body (TurtleDoc before) ts rest triples r in
      (is.0, is.1, complete_fits Free is.0 is.2)

-- The grammar of Turtle (RDF 1.1 Turtle, section 6.5) over tokens with what they stand for, and the triples that each
-- production makes (section 7.2). A part that a star or an option needs takes what stands before it: the triples so far.
use Rattle.std.specs.Prelude.{◌≡◌, ℕ, List, [], ◌∷◌, ◌++◌, Bool, true, false, Option, Some, None, Result, Ok, Err}
use Rattle.rdf_terms.specs.declared.term.Term.{Term}
use Rattle.rdf_terms.specs.declared.term.Term.TheVariants.{Blank, Iri, Literal}
use Rattle.rdf_terms.specs.declared.triple.Triple.{Triple}
use Rattle.grammar_model.specs.Parsers.{Parser, Return, Fail, Advance, Peek, Call, Outcome, Done, Rejected, Grammar, first_of_list, parse, go}
use Rattle.turtle_reader.specs.declared.token_fault.Fault.{Fault}
use Rattle.turtle_reader.specs.declared.token_fault.Fault.TheVariants.{Syntax}
use Rattle.turtle_reader.specs.declared.token_fault.ResolveError.{ResolveError}
use Rattle.turtle_reader.specs.declared.token_fault.ResolveError.TheVariants as errors
use Rattle.turtle_reader.specs.declared.kind.Kind.{Kind}
use Rattle.turtle_reader.specs.declared.kind.Kind.TheVariants as kinds
use Rattle.turtle_reader.specs.declared.kind.Token.{Token}
use Rattle.turtle_reader.specs.Vocabulary.{rdf_type, rdf_first, rdf_rest, rdf_nil, lang_string, xsd_string}

pub data Nonterminal : Type 0 where
  TurtleDoc : (before : List Triple) → Nonterminal
  Statement : (before : List Triple) → Nonterminal
  Triples : (before : List Triple) → Nonterminal
  -- behind "[" as a subject
  BlankSubject : (n : ℕ) → (before : List Triple) → Nonterminal
  PredicateObjectList : (s : Term) → (before : List Triple) → Nonterminal
  -- one verb with its objects, and what follows it in the list
  VerbObjects : (s : Term) → (before : List Triple) → Nonterminal
  MorePredicates : (s : Term) → (before : List Triple) → Nonterminal
  ObjectList : (s p : Term) → (before : List Triple) → Nonterminal
  MoreObjects : (s p : Term) → (before : List Triple) → Nonterminal
  Object : (before : List Triple) → Nonterminal
  -- behind "[" as an object
  BlankObject : (n : ℕ) → (before : List Triple) → Nonterminal
  -- behind a string
  RDFLiteral : (lexical : List ℕ) → Nonterminal
  -- behind "("
  Collection : (before : List Triple) → Nonterminal
  -- the items of a collection whose next cell this is, one item, and what follows it
  Items : (cell : ℕ) → (before : List Triple) → Nonterminal
  Item : (cell : ℕ) → (before : List Triple) → Nonterminal
  MoreItems : (cell : ℕ) → (before : List Triple) → Nonterminal

-- the triples so far, with the term that they are about where the part stands for one
abbrev pub Value : Nonterminal → Type 0
Value (TurtleDoc before) = List Triple
Value (Statement before) = List Triple
Value (Triples before) = List Triple
Value (BlankSubject n before) = List Triple
Value (PredicateObjectList s before) = List Triple
Value (VerbObjects s before) = List Triple
Value (MorePredicates s before) = List Triple
Value (ObjectList s p before) = List Triple
Value (MoreObjects s p before) = List Triple
Value (Object before) = List Triple × Term
Value (BlankObject n before) = List Triple
Value (RDFLiteral lexical) = Term
Value (Collection before) = List Triple × Term
Value (Items cell before) = List Triple
Value (Item cell before) = List Triple
Value (MoreItems cell before) = List Triple

abbrev pub G : Type 0 → Type 0
G A = Parser Token Nonterminal Value A

-- no token is as one that nothing begins with
abbrev pub kind_of : Option Token → Kind
kind_of None = kinds.Unknown
kind_of (Some t) = t.kind

-- by the kind of the next token
abbrev pub by : {A : Type 0} → (Kind → G A) → G A
by f = Peek (λ x. f (kind_of x))

abbrev pub need_by : {A : Type 0} → Bool → G A → G A
need_by true p = Advance p
need_by false p = Fail

-- the next token must be such a one
abbrev pub need : {A : Type 0} → (Kind → Bool) → G A → G A
need test p = by (λ k. need_by (test k) p)

abbrev pub choose : {A : Type 0} → Bool → G A → G A → G A
choose true p q = p
choose false p q = q

-- one or the other way, by the next token, which stays
abbrev pub if_next : {A : Type 0} → (Kind → Bool) → G A → G A → G A
if_next test p q = by (λ k. choose (test k) p q)

-- the value of a part is the value
abbrev pub through : (q : Nonterminal) → G (Value q)
through q = Call q (λ v. Return v)

abbrev pub is_end : Kind → Bool
is_end kinds.End = true
is_end _ = false

abbrev pub is_dot : Kind → Bool
is_dot kinds.Dot = true
is_dot _ = false

abbrev pub is_comma : Kind → Bool
is_comma kinds.Comma = true
is_comma _ = false

abbrev pub is_semicolon : Kind → Bool
is_semicolon kinds.Semicolon = true
is_semicolon _ = false

abbrev pub is_shut_square : Kind → Bool
is_shut_square kinds.ShutSquare = true
is_shut_square _ = false

abbrev pub is_shut_paren : Kind → Bool
is_shut_paren kinds.ShutParen = true
is_shut_paren _ = false

abbrev pub is_namespace : Kind → Bool
is_namespace kinds.Namespace = true
is_namespace _ = false

abbrev pub is_iri_ref : Kind → Bool
is_iri_ref (kinds.IriRef i) = true
is_iri_ref _ = false

-- iri or "a"
abbrev pub begins_verb : Kind → Bool
begins_verb (kinds.IriRef i) = true
begins_verb (kinds.Name i) = true
begins_verb kinds.A = true
begins_verb _ = false

abbrev pub triple : Term → Term → Term → Triple
triple s p o = record { s = s; p = p; o = o }

-- literals (section 2.5)
abbrev pub typed : List ℕ → List ℕ → Term
typed datatype lexical = Literal datatype None lexical

abbrev pub tagged : List ℕ → List ℕ → Term
tagged tag lexical = Literal lang_string (Some tag) lexical

-- RDFLiteral ::= String (LANGTAG | '^^' iri)?
abbrev pub datatype_by : List ℕ → Kind → G Term
datatype_by lexical (kinds.IriRef i) = Advance (Return (typed i lexical))
datatype_by lexical (kinds.Name i) = Advance (Return (typed i lexical))
datatype_by lexical _ = Fail

abbrev pub literal_by : List ℕ → Kind → G Term
literal_by lexical (kinds.Tag tag) = Advance (Return (tagged tag lexical))
literal_by lexical kinds.Carets = Advance (by (datatype_by lexical))
literal_by lexical _ = Return (typed xsd_string lexical)

-- the document, whose link text is the name of its blank nodes
module _ (doc : List ℕ) where
  abbrev pub blank : ℕ → Term
  blank n = Blank doc n

  -- statement ::= directive | triples '.'
  -- prefixID ::= '@prefix' PNAME_NS IRIREF '.'
  -- base ::= '@base' IRIREF '.'
  -- sparqlPrefix ::= "PREFIX" PNAME_NS IRIREF
  -- sparqlBase ::= "BASE" IRIREF
  abbrev pub statement_by : List Triple → Kind → G (List Triple)
  statement_by before kinds.AtPrefix = Advance (need is_namespace (need is_iri_ref (need is_dot (Return before))))
  statement_by before kinds.AtBase = Advance (need is_iri_ref (need is_dot (Return before)))
  statement_by before kinds.Prefix = Advance (need is_namespace (need is_iri_ref (Return before)))
  statement_by before kinds.Base = Advance (need is_iri_ref (Return before))
  statement_by before _ = Call (Triples before) (λ ts. need is_dot (Return ts))

  -- triples ::= subject predicateObjectList | blankNodePropertyList predicateObjectList?
  -- subject ::= iri | BlankNode | collection
  abbrev pub triples_by : List Triple → Kind → G (List Triple)
  triples_by before (kinds.IriRef i) = Advance (through (PredicateObjectList (Iri i) before))
  triples_by before (kinds.Name i) = Advance (through (PredicateObjectList (Iri i) before))
  triples_by before (kinds.Label n) = Advance (through (PredicateObjectList (blank n) before))
  triples_by before (kinds.OpenSquare n) = Advance (through (BlankSubject n before))
  triples_by before kinds.OpenParen = Advance (Call (Collection before) (λ x. through (PredicateObjectList x.1 x.0)))
  triples_by before _ = Fail

  -- verb ::= predicate | 'a'
  -- predicate ::= iri
  abbrev pub verb_by : Term → List Triple → Kind → G (List Triple)
  verb_by s before (kinds.IriRef i) = Advance (through (ObjectList s (Iri i) before))
  verb_by s before (kinds.Name i) = Advance (through (ObjectList s (Iri i) before))
  verb_by s before kinds.A = Advance (through (ObjectList s (Iri rdf_type) before))
  verb_by s before _ = Fail

  -- object ::= iri | BlankNode | collection | blankNodePropertyList | literal
  -- literal ::= RDFLiteral | NumericLiteral | BooleanLiteral
  abbrev pub object_by : List Triple → Kind → G (List Triple × Term)
  object_by before (kinds.IriRef i) = Advance (Return (before, Iri i))
  object_by before (kinds.Name i) = Advance (Return (before, Iri i))
  object_by before (kinds.Label n) = Advance (Return (before, blank n))
  object_by before (kinds.OpenSquare n) = Advance (Call (BlankObject n before) (λ ts. Return (ts, blank n)))
  object_by before kinds.OpenParen = Advance (through (Collection before))
  object_by before (kinds.Text lexical) = Advance (Call (RDFLiteral lexical) (λ o. Return (before, o)))
  object_by before (kinds.Literal datatype lexical) = Advance (Return (before, typed datatype lexical))
  object_by before _ = Fail

  -- collection ::= '(' object* ')'
  -- What is no item and does not shut the list does not fit, whichever of them is looked for.
  abbrev pub collection_of : List Triple → Option Token → G (List Triple × Term)
  collection_of before None = Fail
  collection_of before (Some t) = choose (is_shut_paren t.kind) (Advance (Return (before, Iri rdf_nil))) (Call (Items t.cell before) (λ ts. Return (ts, blank t.cell)))

  abbrev pub more_items_of : ℕ → List Triple → Option Token → G (List Triple)
  more_items_of cell before None = Fail
  more_items_of cell before (Some t) =
      choose (is_shut_paren t.kind)
      (Advance (Return (before ++ triple (blank cell) (Iri rdf_rest) (Iri rdf_nil) ∷ [])))
      (through (Items t.cell (before ++ triple (blank cell) (Iri rdf_rest) (blank t.cell) ∷ [])))

  abbrev pub body : (q : Nonterminal) → G (Value q)
  -- turtleDoc ::= statement*
  body (TurtleDoc before) = if_next is_end (Return before) (Call (Statement before) (λ ts. through (TurtleDoc ts)))
  body (Statement before) = by (statement_by before)
  body (Triples before) = by (triples_by before)
  -- a blank node alone wants predicates behind it; one with a list of them may have more
  -- BlankNode ::= BLANK_NODE_LABEL | ANON, and blankNodePropertyList ::= '[' predicateObjectList ']'
  body (BlankSubject n before) =
      if_next is_shut_square
      (Advance (through (PredicateObjectList (blank n) before)))
      (Call (PredicateObjectList (blank n) before) (λ ts. need is_shut_square (if_next begins_verb (through (PredicateObjectList (blank n) ts)) (Return ts))))
  -- predicateObjectList ::= verb objectList (';' (verb objectList)?)*
  body (PredicateObjectList s before) = Call (VerbObjects s before) (λ ts. through (MorePredicates s ts))
  body (VerbObjects s before) = by (verb_by s before)
  body (MorePredicates s before) =
      if_next is_semicolon
      (Advance (if_next begins_verb (Call (VerbObjects s before) (λ ts. through (MorePredicates s ts))) (through (MorePredicates s before))))
      (Return before)
  -- objectList ::= object (',' object)*; the triples inside an object come before the triple that it belongs to
  body (ObjectList s p before) = Call (Object before) (λ x. through (MoreObjects s p (x.0 ++ triple s p x.1 ∷ [])))
  body (MoreObjects s p before) = if_next is_comma (Advance (through (ObjectList s p before))) (Return before)
  body (Object before) = by (object_by before)
  body (BlankObject n before) = if_next is_shut_square (Advance (Return before)) (Call (PredicateObjectList (blank n) before) (λ ts. need is_shut_square (Return ts)))
  body (RDFLiteral lexical) = by (literal_by lexical)
  body (Collection before) = Peek (collection_of before)
  body (Items cell before) = Call (Item cell before) (λ ts. through (MoreItems cell ts))
  body (Item cell before) = Call (Object before) (λ x. Return (x.0 ++ triple (blank cell) (Iri rdf_first) x.1 ∷ []))
  body (MoreItems cell before) = Peek (more_items_of cell before)

-- ---- faults

-- a token that does not fit is at fault where it stands; behind the last one is the fault that stopped the resolving
abbrev pub fault_of : Fault → List Token → Fault
fault_of stop [] = stop
fault_of stop (t ∷ ts) = Syntax t.from

abbrev pub turtle : List ℕ → Fault → Grammar
turtle doc stop = record { Token = Token; Fault = Fault; Nonterminal = Nonterminal; Value = Value; body = body doc; fault_at = fault_of stop }

-- ---- what is read

-- a part that begins with others has a higher rank than these
abbrev pub rank : Nonterminal → ℕ
rank (TurtleDoc before) = 2
rank (Statement before) = 1
rank (BlankSubject n before) = 2
rank (PredicateObjectList s before) = 1
rank (ObjectList s p before) = 1
rank (BlankObject n before) = 2
rank (Collection before) = 3
rank (Items cell before) = 2
rank (Item cell before) = 1
rank (MoreItems cell before) = 3
rank _ = 0

-- parts that surely take a token, where a rank needs it
abbrev pub takes : Nonterminal → Bool
takes (Statement before) = true
takes (Triples before) = true
takes (Object before) = true
takes (Item cell before) = true
takes _ = false

abbrev pub E : Nonterminal → Type 0
E q = Outcome Token Fault (Value q)

unfoldable pub reads : List ℕ → Fault → (q : Nonterminal) → List Token → E q
reads doc stop q ts = parse (turtle doc stop) rank takes 4 q ts

abbrev pub within : List ℕ → Fault → (q : Nonterminal) → List Token → E q
within doc stop q ts = go (turtle doc stop) (reads doc stop) q (body doc q) ts

-- what stands behind `^^` of a literal
abbrev pub datatype_read : List ℕ → Fault → List ℕ → List Token → Outcome Token Fault Term
datatype_read doc stop lexical ts = go (turtle doc stop) (reads doc stop) (RDFLiteral lexical) (by (datatype_by lexical)) ts

-- ---- what code gives

abbrev pub Fails : {Y : Type 0} → ResolveError → Outcome Token Fault Y → Type 0
Fails errors.Memory read = Unit {0}
Fails (errors.Fault f) read = read ≡ Rejected f

abbrev pub Gives : {X Y : Type 0} → (X → Y × List Token) → Result X ResolveError → Outcome Token Fault Y → Type 0
Gives seen (Ok x) read = read ≡ Done (seen x).0 (seen x).1
Gives seen (Err e) read = Fails e read

abbrev pub FirstIs : List Token → Option (Token × List Token) → Type 0
FirstIs ts None = ts ≡ []
FirstIs ts (Some x) = ts ≡ x.0 ∷ x.1

-- what stands behind a token of this kind
abbrev pub Behind : (Kind → Bool) → Kind → List Token → Option (List Token) → Type 0
Behind test kind ts None = test (kind_of (first_of_list ts)) ≡ false
Behind test kind ts (Some rest) = (t : Token) × (t.kind ≡ kind) × (ts ≡ t ∷ rest)

-- what stands behind a token that must be there
abbrev pub Needed : Fault → (Kind → Bool) → List Token → Result (List Token) ResolveError → Type 0
Needed stop test ts (Err e) = (test (kind_of (first_of_list ts)) ≡ false) × (e ≡ errors.Fault (fault_of stop ts))
Needed stop test ts (Ok rest) = (t : Token) × (test t.kind ≡ true) × (ts ≡ t ∷ rest)

abbrev pub rest_of : {X Y : Type 0} → (X → Y) → Result X ResolveError → Result Y ResolveError
rest_of f (Ok x) = Ok (f x)
rest_of f (Err e) = Err e

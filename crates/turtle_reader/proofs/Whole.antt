-- The grammar's parts are what their bodies say, and it gives each list of tokens one answer.
use Rattle.std.proofs.Common.{◌≡◌, ℕ, ◌≤◌, List, arith, rules, subst, Option, Some, None, Bool, true, false}
use Rattle.rdf_terms.specs.declared.term.Term.{Term}
use Rattle.rdf_terms.specs.declared.triple.Triple.{Triple}
use Rattle.grammar_model.specs.Parsers.{Fine, Takes, Reads}
use Rattle.grammar_model.proofs.Reading.{one, opened, parse_reads}
use Rattle.turtle_reader.specs.declared.token_fault.Fault.{Fault}
use Rattle.turtle_reader.specs.declared.kind.Kind.{Kind}
use Rattle.turtle_reader.specs.declared.kind.Kind.TheVariants as kinds
use Rattle.turtle_reader.specs.declared.kind.Token.{Token}
use Rattle.turtle_reader.specs.Grammar.{Nonterminal, TurtleDoc, Statement, Triples, BlankSubject, PredicateObjectList, VerbObjects, MorePredicates, ObjectList, MoreObjects, Object, BlankObject, RDFLiteral, Collection, Items, Item, MoreItems, turtle, rank, takes, body, E, reads, within, kind_of, Value, G, need_by, choose, statement_by, triples_by, verb_by, object_by, datatype_by, literal_by, collection_of, more_items_of, is_end, is_dot, is_comma, is_semicolon, is_shut_square, is_shut_paren, is_namespace, is_iri_ref, begins_verb}

small : (q : Nonterminal) → rank q ≤ 4
small (TurtleDoc before) = omega arith
small q = omega arith

module _ (doc : List ℕ) (stop : Fault) where
  abbrev F : (m : Nonterminal) → ℕ → G (Value m) → Type 0
  F m r p = Fine (turtle doc stop) rank takes 4 m r p

  needed : (m : Nonterminal) (r : ℕ) (b : Bool) (p : G (Value m)) → F m 4 p → F m r (need_by b p)
  needed m r true p f = f
  needed m r false p f = tt

  chosen : (m : Nonterminal) (r : ℕ) (b : Bool) (p q : G (Value m)) → F m r p → F m r q → F m r (choose b p q)
  chosen m r true p q f g = f
  chosen m r false p q f g = g

  statement_fine : (before : List Triple) (k : Kind) → F (Statement before) 1 (statement_by doc before k)
  statement_fine before kinds.AtPrefix = λ x. needed (Statement before) 4 (is_namespace (kind_of x)) _ (λ y. needed (Statement before) 4 (is_iri_ref (kind_of y)) _ (λ z. needed (Statement before) 4 (is_dot (kind_of z)) _ tt))
  statement_fine before kinds.AtBase = λ y. needed (Statement before) 4 (is_iri_ref (kind_of y)) _ (λ z. needed (Statement before) 4 (is_dot (kind_of z)) _ tt)
  statement_fine before kinds.Prefix = λ x. needed (Statement before) 4 (is_namespace (kind_of x)) _ (λ y. needed (Statement before) 4 (is_iri_ref (kind_of y)) _ tt)
  statement_fine before kinds.Base = λ y. needed (Statement before) 4 (is_iri_ref (kind_of y)) _ tt
  statement_fine before k = (omega arith, λ ts z. needed (Statement before) 4 (is_dot (kind_of z)) _ tt)

  triples_fine : (before : List Triple) (k : Kind) → F (Triples before) 0 (triples_by doc before k)
  triples_fine before kinds.Dot = search (rules, needed, chosen)
  triples_fine before k = search (rules, needed, chosen)

  verb_fine : (s : Term) (before : List Triple) (k : Kind) → F (VerbObjects s before) 0 (verb_by doc s before k)
  verb_fine s before kinds.Dot = search (rules, needed, chosen)
  verb_fine s before k = search (rules, needed, chosen)

  object_fine : (before : List Triple) (k : Kind) → F (Object before) 0 (object_by doc before k)
  object_fine before kinds.Dot = search (rules, needed, chosen)
  object_fine before k = search (rules, needed, chosen)

  datatype_fine : (lexical : List ℕ) (k : Kind) → F (RDFLiteral lexical) 4 (datatype_by lexical k)
  datatype_fine lexical kinds.Dot = tt
  datatype_fine lexical k = search rules

  literal_fine : (lexical : List ℕ) (k : Kind) → F (RDFLiteral lexical) 0 (literal_by lexical k)
  literal_fine lexical kinds.Carets = λ x. datatype_fine lexical (kind_of x)
  literal_fine lexical k = search rules

  collection_fine : (before : List Triple) (x : Option Token) → F (Collection before) 3 (collection_of doc before x)
  collection_fine before None = tt
  collection_fine before (Some t) = chosen (Collection before) 3 (is_shut_paren t.kind) _ _ tt (omega arith, λ ts. tt)

  more_items_fine : (cell : ℕ) (before : List Triple) (x : Option Token) → F (MoreItems cell before) 3 (more_items_of doc cell before x)
  more_items_fine cell before None = tt
  more_items_fine cell before (Some t) = chosen (MoreItems cell before) 3 (is_shut_paren t.kind) _ _ tt (omega arith, λ ts. tt)

  abbrev T : (m : Nonterminal) → G (Value m) → Type 0
  T m p = Takes (turtle doc stop) rank takes 4 m p

  statement_takes : (before : List Triple) (k : Kind) → T (Statement before) (statement_by doc before k)
  statement_takes before kinds.AtPrefix = tt
  statement_takes before k = tt

  triples_takes : (before : List Triple) (k : Kind) → T (Triples before) (triples_by doc before k)
  triples_takes before kinds.Dot = tt
  triples_takes before k = tt

  object_takes : (before : List Triple) (k : Kind) → T (Object before) (object_by doc before k)
  object_takes before kinds.Dot = tt
  object_takes before k = tt

  all_take : (q : Nonterminal) → takes q ≡ true → T q (body doc q)
  all_take (Statement before) e = λ x. statement_takes before (kind_of x)
  all_take (Triples before) e = λ x. triples_takes before (kind_of x)
  all_take (Object before) e = λ x. object_takes before (kind_of x)
  all_take (Item cell before) e = tt
  all_take q e = absurd cc

  fine : (q : Nonterminal) → F q (rank q) (body doc q)
  fine (TurtleDoc before) = λ x. chosen (TurtleDoc before) 2 (is_end (kind_of x)) _ _ tt (search rules)
  fine (Statement before) = λ x. statement_fine before (kind_of x)
  fine (Triples before) = λ x. triples_fine before (kind_of x)
  fine (BlankSubject n before) =
      λ x. chosen (BlankSubject n before) 2 (is_shut_square (kind_of x)) _ _ (search rules)
      (omega arith, λ ts y. needed (BlankSubject n before) 2 (is_shut_square (kind_of y)) _ (λ z. chosen (BlankSubject n before) 4 (begins_verb (kind_of z)) _ _ (search rules) tt))
  fine (PredicateObjectList s before) = search rules
  fine (VerbObjects s before) = λ x. verb_fine s before (kind_of x)
  fine (MorePredicates s before) =
      λ x. chosen (MorePredicates s before) 0 (is_semicolon (kind_of x)) _ _
      (λ y. chosen (MorePredicates s before) 4 (begins_verb (kind_of y)) _ _ (search rules) (search rules)) tt
  fine (ObjectList s p before) = search rules
  fine (MoreObjects s p before) = λ x. chosen (MoreObjects s p before) 0 (is_comma (kind_of x)) _ _ (search rules) tt
  fine (Object before) = λ x. object_fine before (kind_of x)
  fine (BlankObject n before) =
      λ x. chosen (BlankObject n before) 2 (is_shut_square (kind_of x)) _ _ tt (omega arith, λ ts y. needed (BlankObject n before) 2 (is_shut_square (kind_of y)) _ tt)
  fine (RDFLiteral lexical) = λ x. literal_fine lexical (kind_of x)
  fine (Collection before) = λ x. collection_fine before x
  fine (Items cell before) = search rules
  fine (Item cell before) = search rules
  fine (MoreItems cell before) = λ x. more_items_fine cell before x

  pub part_is : (q : Nonterminal) (ts : List Token) → reads doc stop q ts ≡ within doc stop q ts
  unfolding reads
  part_is q ts = opened (turtle doc stop) rank takes 4 all_take small fine q ts

  pub reads_it : (q : Nonterminal) (ts : List Token) → Reads (turtle doc stop) q (body doc q) ts (reads doc stop q ts)
  unfolding reads
  reads_it q ts = parse_reads (turtle doc stop) rank takes 4 all_take small fine q ts

  pub only_one : (q : Nonterminal) (ts : List Token) (a b : E q) → Reads (turtle doc stop) q (body doc q) ts a → Reads (turtle doc stop) q (body doc q) ts b → a ≡ b
  only_one q ts a b r s = one (turtle doc stop) q (body doc q) ts a b r s

  pub is_read : (q : Nonterminal) (ts : List Token) (o : E q) → reads doc stop q ts ≡ o → Reads (turtle doc stop) q (body doc q) ts o
  is_read q ts o e = subst (λ (x : E q). Reads (turtle doc stop) q (body doc q) ts x) e (reads_it q ts)

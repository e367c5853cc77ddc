-- The order of solutions' terms: unbound, blank nodes, IRIs, literals (SPARQL 1.1 Query Language, section 15.1; docs/FORMATS.md, "Order of terms").
use Rattle.std.specs.Prelude.{ℕ, Bool, true, false, List, [], Option, Some, None, ℤ, pos, bytes_eq}
use Rattle.std.specs.declared.cmp.Ordering.{Ordering}
use Rattle.std.specs.Ordering.{nat_cmp, int_cmp, on, then_cmp, ordering_then}
use Rattle.value_core.specs.declared.numbers.Number.{Number}
use Rattle.value_core.specs.Numbers.{number_of, boolean_of}
use Rattle.rdf_terms.specs.declared.term.Term.{Term}
use Rattle.rdf_terms.specs.declared.term.Term.TheVariants.{Blank, Iri, Literal}
use Rattle.rdf_terms.specs.Order.{text_cmp, tag_cmp}
use Rattle.expr_eval.specs.Names.{string_type}
use Rattle.expr_eval.specs.declared.ordering.Kind.{Kind}
use Rattle.expr_eval.specs.declared.ordering.Kind.TheVariants.{Number as NumberKind, Boolean, Text, Other}

-- the kind of a literal: a number with its value, a boolean with its value, a string or another
abbrev pub kind_by : Option Number → Option Bool → Bool → Kind
kind_by (Some n) b s = NumberKind n
kind_by None (Some b) s = Boolean b
kind_by None None true = Text
kind_by None None false = Other

unfoldable pub kind_of : List ℕ → List ℕ → Kind
kind_of lexical datatype = kind_by (number_of lexical datatype) (boolean_of lexical datatype) (bytes_eq datatype string_type)

-- what a term is ordered by, one after the other
pub record Key : Type 0 where
  -- unbound, blank node, IRI, number, boolean, string, another literal
  pub rank : ℕ
  -- of a number, or of a boolean as 0 or 1
  pub value : ℤ
  pub first : List ℕ
  -- of a blank node
  pub count : ℕ
  pub second : List ℕ
  pub tag : Option (List ℕ)
  pub third : List ℕ

abbrev pub truth_value : Bool → ℤ
truth_value false = pos 0
truth_value true = pos 1

-- a literal's key by its kind; booleans have one datatype, and strings too
abbrev pub key_by : Kind → List ℕ → Option (List ℕ) → List ℕ → Key
key_by (NumberKind n) datatype tag lexical = record { rank = 3; value = n.scaled; first = lexical; count = 0; second = datatype; tag = tag; third = [] }
key_by (Boolean b) datatype tag lexical = record { rank = 4; value = truth_value b; first = lexical; count = 0; second = datatype; tag = tag; third = [] }
key_by Text datatype tag lexical = record { rank = 5; value = pos 0; first = lexical; count = 0; second = datatype; tag = tag; third = [] }
key_by Other datatype tag lexical = record { rank = 6; value = pos 0; first = datatype; count = 0; second = []; tag = tag; third = lexical }

abbrev pub key_of_term : Term → Key
key_of_term (Blank doc n) = record { rank = 1; value = pos 0; first = doc; count = n; second = []; tag = None; third = [] }
key_of_term (Iri text) = record { rank = 2; value = pos 0; first = text; count = 0; second = []; tag = None; third = [] }
key_of_term (Literal datatype tag lexical) = key_by (kind_of lexical datatype) datatype tag lexical

abbrev pub key_of : Option Term → Key
key_of None = record { rank = 0; value = pos 0; first = []; count = 0; second = []; tag = None; third = [] }
key_of (Some term) = key_of_term term

-- keys go by their parts in turn, texts by code point
abbrev pub rest_cmp : Key → Key → Ordering
rest_cmp =
    then_cmp (on (λ (k : Key). k.value) int_cmp) (then_cmp (on (λ (k : Key). k.first) text_cmp)
    (then_cmp (on (λ (k : Key). k.count) nat_cmp) (then_cmp (on (λ (k : Key). k.second) text_cmp)
    (then_cmp (on (λ (k : Key). k.tag) tag_cmp) (on (λ (k : Key). k.third) text_cmp)))))

abbrev pub key_cmp : Key → Key → Ordering
key_cmp = then_cmp (on (λ (k : Key). k.rank) nat_cmp) rest_cmp

-- the order of what stands in a solution, None where nothing does
abbrev pub term_order : Option Term → Option Term → Ordering
term_order = on key_of key_cmp

-- literals of one kind: by lexical form, datatype and tag, or by datatype, tag and lexical form
abbrev pub form_cmp : List ℕ → Option (List ℕ) → List ℕ → List ℕ → Option (List ℕ) → List ℕ → Ordering
form_cmp x t a y u b = ordering_then (text_cmp a b) (ordering_then (text_cmp x y) (tag_cmp t u))

abbrev pub datatype_cmp : List ℕ → Option (List ℕ) → List ℕ → List ℕ → Option (List ℕ) → List ℕ → Ordering
datatype_cmp x t a y u b = ordering_then (text_cmp x y) (ordering_then (tag_cmp t u) (text_cmp a b))

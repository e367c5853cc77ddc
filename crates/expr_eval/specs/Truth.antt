-- Truth values, equality and comparison of terms (SPARQL 1.1 Query Language, sections 17.2.2 and 17.3; docs/FORMATS.md, "Values").
-- None is the type error throughout.
use Rattle.std.specs.Prelude.{ℕ, Bool, true, false, not, ◌&&◌, ◌||◌, ◌==◌, if◌then◌else◌, List, length, Option, Some, None, option_map, is_some, pos, bytes_eq}
use Rattle.std.specs.Option.{option_or}
use Rattle.std.specs.Ordering.{int_eq, int_cmp, bool_cmp, is_eq, is_lt}
use Rattle.value_core.specs.declared.numbers.Number.{Number}
use Rattle.value_core.specs.Numbers.{number_of, boolean_of, has_value_space, is_well_formed}
use Rattle.rdf_terms.specs.declared.term.Term.{Term}
use Rattle.rdf_terms.specs.declared.term.Term.TheVariants.{Blank, Iri, Literal}
use Rattle.rdf_terms.specs.Order.{text_cmp}
use Rattle.rdf_terms.specs.Same.{same_term}
use Rattle.expr_eval.specs.Names.{string_type}
use Rattle.expr_eval.specs.declared.expr.CompareOp.{CompareOp}
use Rattle.expr_eval.specs.declared.expr.CompareOp.TheVariants.{Equal, NotEqual, Less, LessEqual, Greater, GreaterEqual}

-- the number that a term stands for, where it has one
abbrev pub number_in : Term → Option Number
number_in (Blank doc n) = None
number_in (Iri text) = None
number_in (Literal datatype tag lexical) = number_of lexical datatype

-- the truth value that a term stands for, where it has one
abbrev pub boolean_in : Term → Option Bool
boolean_in (Blank doc n) = None
boolean_in (Iri text) = None
boolean_in (Literal datatype tag lexical) = boolean_of lexical datatype

-- the lexical form of a literal of the datatype string
abbrev pub string_in : Term → Option (List ℕ)
string_in (Blank doc n) = None
string_in (Iri text) = None
string_in (Literal datatype tag lexical) = if bytes_eq datatype string_type then Some lexical else None

abbrev pub is_literal : Term → Bool
is_literal (Blank doc n) = false
is_literal (Iri text) = false
is_literal (Literal datatype tag lexical) = true

-- what holds of two values, where both are there
abbrev pub both : {X Y : Type 0} → (X → X → Y) → Option X → Option X → Option Y
both f None y = None
both f (Some x) None = None
both f (Some x) (Some y) = Some (f x y)

-- a string or a tagged literal is false where it is empty
abbrev pub truth_of_text : List ℕ → Option (List ℕ) → List ℕ → Option Bool
truth_of_text datatype tag lexical =
    if bytes_eq datatype string_type || is_some tag then Some (not (length lexical == 0)) else None

-- a number is false where it is 0
abbrev pub truth_of_number : Number → Bool
truth_of_number n = not (int_eq n.scaled (pos 0))

-- a form that is not valid for its datatype is false
abbrev pub truth_of_form : List ℕ → List ℕ → Option Bool
truth_of_form datatype lexical = if has_value_space datatype && not (is_well_formed lexical datatype) then Some false else None

-- the effective boolean value of a term, by the first of four cases that holds
abbrev pub truth_of_term : Term → Option Bool
truth_of_term (Blank doc n) = None
truth_of_term (Iri text) = None
truth_of_term (Literal datatype tag lexical) =
    option_or (boolean_of lexical datatype)
    (option_or (truth_of_text datatype tag lexical)
    (option_or (option_map truth_of_number (number_of lexical datatype)) (truth_of_form datatype lexical)))

-- the same number, however it is written
abbrev pub same_number : Number → Number → Bool
same_number a b = int_eq a.scaled b.scaled

abbrev pub number_before : Number → Number → Bool
number_before a b = is_lt (int_cmp a.scaled b.scaled)

abbrev pub same_truth : Bool → Bool → Bool
same_truth a b = is_eq (bool_cmp a b)

abbrev pub truth_before : Bool → Bool → Bool
truth_before a b = is_lt (bool_cmp a b)

abbrev pub text_before : List ℕ → List ℕ → Bool
text_before a b = is_lt (text_cmp a b)

-- equality of terms that are not both numbers or both booleans
abbrev pub equal_otherwise : Term → Term → Option Bool
equal_otherwise a b =
    if same_term a b then Some true
    else (if is_some (string_in a) && is_some (string_in b) then Some false
    else (if is_literal a && is_literal b then None else Some false))

-- whether `a = b`: numbers and booleans by value, else by the terms
abbrev pub equal_of : Term → Term → Option Bool
equal_of a b =
    option_or (both same_number (number_in a) (number_in b))
    (option_or (both same_truth (boolean_in a) (boolean_in b)) (equal_otherwise a b))

-- whether `a < b`: numbers by value, strings by code point, booleans with false before true
abbrev pub less_of : Term → Term → Option Bool
less_of a b =
    option_or (both number_before (number_in a) (number_in b))
    (option_or (both text_before (string_in a) (string_in b)) (both truth_before (boolean_in a) (boolean_in b)))

-- each comparison by these two
abbrev pub compared : CompareOp → Term → Term → Option Bool
compared Equal a b = equal_of a b
compared NotEqual a b = option_map not (equal_of a b)
compared Less a b = less_of a b
compared LessEqual a b = option_map not (less_of b a)
compared Greater a b = less_of b a
compared GreaterEqual a b = option_map not (less_of a b)

-- What the parts of a query make, after SPARQL 1.1, sections 4.1.2, 4.2.4 and 18.2.
use Rattle.std.specs.Prelude.{ℕ, zero, suc, ◌+◌, ◌==◌, List, [], ◌∷◌, ◌++◌, Bool, true, false, ◌||◌, Some, None, codes, if◌then◌else◌}
use Rattle.std.specs.List.{list_any}
use Rattle.rdf_terms.specs.declared.term.Term.{Term}
use Rattle.rdf_terms.specs.declared.term.Term.TheVariants.{Iri, Literal}
use Rattle.rows_core.specs.declared.pattern.Spot.{Spot}
use Rattle.rows_core.specs.declared.pattern.Spot.TheVariants as spots
use Rattle.rows_core.specs.declared.pattern.TriplePattern.{TriplePattern}
use Rattle.expr_eval.specs.declared.expr.Sign.{Sign}
use Rattle.expr_eval.specs.declared.expr.Sign.TheVariants.{Plus, Minus}
use Rattle.expr_eval.specs.declared.expr.Expr.{Expr, Constant, And}
use Rattle.algebra_core.specs.declared.algebra.Algebra.{Algebra, Bgp, Join, Filter, LeftJoin, fold-Algebra}
use Rattle.algebra_core.specs.declared.algebra.Algebra.TheOpen.{Algebra-F}
use Rattle.algebra_core.specs.Meaning.{patterns_in}

-- ---- terms

-- the verb `a`
abbrev pub type_iri : Term
type_iri = Iri (codes "http://www.w3.org/1999/02/22-rdf-syntax-ns#type")

abbrev pub plain_text : List ℕ → Term
plain_text text = Literal (codes "http://www.w3.org/2001/XMLSchema#string") None text

abbrev pub tagged_text : List ℕ → List ℕ → Term
tagged_text text tag = Literal (codes "http://www.w3.org/1999/02/22-rdf-syntax-ns#langString") (Some tag) text

abbrev pub typed_text : List ℕ → List ℕ → Term
typed_text text datatype = Literal datatype None text

-- a number keeps its text
abbrev pub number : List ℕ → List ℕ → Term
number datatype lexical = Literal datatype None lexical

abbrev pub sign_text : Sign → List ℕ
sign_text Plus = codes "+"
sign_text Minus = codes "-"

abbrev pub signed_number : Sign → List ℕ → List ℕ → Term
signed_number sign datatype lexical = Literal datatype None (sign_text sign ++ lexical)

abbrev pub boolean : Bool → Term
boolean truth = Literal (codes "http://www.w3.org/2001/XMLSchema#boolean") None (if truth then codes "true" else codes "false")

abbrev pub true_term : Term
true_term = boolean true

-- ---- groups

abbrev pub is_empty : {X : Type 0} → List X → Bool
is_empty [] = true
is_empty _ = false

abbrev pub nothing_step : Algebra-F Bool → Bool
nothing_step (Algebra-F.Bgp ps) = is_empty ps
nothing_step (Algebra-F.Join a b) = false
nothing_step (Algebra-F.Union a b) = false
nothing_step (Algebra-F.Filter e a) = false
nothing_step (Algebra-F.LeftJoin a b e) = false

-- a basic graph pattern of nothing
abbrev pub is_nothing : Algebra → Bool
is_nothing = fold-Algebra Bool nothing_step

-- both, where a join with nothing is left out
abbrev pub joined : Algebra → Algebra → Algebra
joined a b = if is_nothing a then b else (if is_nothing b then a else Join a b)

-- each of the filters: one alone is itself, and none at all is true
abbrev pub conjunction : List Expr → Expr
conjunction [] = Constant true_term
conjunction (e ∷ []) = e
conjunction (e ∷ f ∷ es) = And (e ∷ f ∷ es)

-- what stands in a group so far: what is joined, the triples behind it, and the filters
pub record PartialGroup : Type 0 where
  pub algebra : Algebra
  pub patterns : List TriplePattern
  pub filters : List Expr

abbrev pub empty_group : PartialGroup
empty_group = record { algebra = Bgp []; patterns = []; filters = [] }

-- what is joined, with the triples behind it
abbrev pub with_pending_bgp : Algebra → List TriplePattern → Algebra
with_pending_bgp algebra patterns = joined algebra (Bgp patterns)

-- a whole group, with its filters apart
pub record Grouped : Type 0 where
  pub algebra : Algebra
  pub filters : List Expr

-- the end of a group
abbrev pub finish_group : PartialGroup → Grouped
finish_group s = record { algebra = with_pending_bgp s.algebra s.patterns; filters = s.filters }

abbrev pub filtered_by : List Expr → Algebra → Algebra
filtered_by [] algebra = algebra
filtered_by (e ∷ es) algebra = Filter (conjunction (e ∷ es)) algebra

-- a group's filters stand round it
abbrev pub filtered : Grouped → Algebra
filtered g = filtered_by g.filters g.algebra

-- filters are kept aside: triples that only filters separate stay together
abbrev pub with_filter : PartialGroup → Expr → PartialGroup
with_filter s e = record s { filters = s.filters ++ e ∷ [] }

abbrev pub with_triples : PartialGroup → List TriplePattern → PartialGroup
with_triples s patterns = record s { patterns = patterns }

-- a group or a union is joined
abbrev pub with_group : PartialGroup → Algebra → PartialGroup
with_group s g = record s { algebra = joined (with_pending_bgp s.algebra s.patterns) g; patterns = [] }

-- the filters that stand directly in an optional group are its condition
abbrev pub with_option : PartialGroup → Grouped → PartialGroup
with_option s g = record s { algebra = LeftJoin (with_pending_bgp s.algebra s.patterns) g.algebra (conjunction g.filters); patterns = [] }

-- ---- selection

-- the variables with one more, where it isn't there
abbrev pub with_once : List ℕ → ℕ → List ℕ
with_once seen v = if list_any (λ w. w == v) seen then seen else seen ++ v ∷ []

abbrev pub once_from : List ℕ → List ℕ → List ℕ
once_from seen [] = seen
once_from seen (v ∷ vs) = once_from (with_once seen v) vs

-- a repeated variable once
abbrev pub once : List ℕ → List ℕ
once vs = once_from [] vs

abbrev pub is_variable : ℕ → Spot → Bool
is_variable v (spots.Term t) = false
is_variable v (spots.Var w) = w == v

-- the variable stands in the pattern
abbrev pub has_variable : ℕ → TriplePattern → Bool
has_variable v p = is_variable v p.s || (is_variable v p.p || is_variable v p.o)

-- the variable stands in one of the patterns
abbrev pub stands_in : ℕ → List TriplePattern → Bool
stands_in v patterns = list_any (has_variable v) patterns

abbrev pub with_in_scope : List ℕ → ℕ → List TriplePattern → List ℕ
with_in_scope all v patterns = if stands_in v patterns then all ++ v ∷ [] else all

-- the variables that stand in one of the patterns, of so many from the first
abbrev pub in_scope_from : ℕ → ℕ → List TriplePattern → List ℕ
in_scope_from v zero patterns = []
in_scope_from v (suc n) patterns = if stands_in v patterns then v ∷ in_scope_from (v + 1) n patterns else in_scope_from (v + 1) n patterns

-- the named variables that stand in one of the patterns, by their numbers
abbrev pub in_scope : ℕ → List TriplePattern → List ℕ
in_scope names patterns = in_scope_from 0 names patterns

-- those that stand in a triple pattern of the body
abbrev pub selected_by_star : ℕ → Algebra → List ℕ
selected_by_star names body = in_scope names (patterns_in body)

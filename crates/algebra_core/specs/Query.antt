-- Queries, their validity and their solutions, after SPARQL 1.1 Query Language, sections 15 and 18.5.
use Rattle.std.specs.Prelude.{ℕ, ◌≡◌, ◌<◌, ◌≤◌, Bool, true, ◌&&◌, nat_lt, List, [], ◌∷◌, ◌++◌, length, map, if◌then◌else◌}
use Rattle.std.specs.Option.{option_eq}
use Rattle.std.specs.Cmp.Lexicographic.{pointwise}
use Rattle.std.specs.List.Sorted.{IsPermutation}
use Rattle.rdf_terms.specs.Lists.{IsIn, Apart}
use Rattle.rdf_terms.specs.Same.{same_term}
use Rattle.rdf_terms.specs.declared.triple.Triple.{Triple}
use Rattle.rows_core.specs.declared.pattern.Spot.{Spot}
use Rattle.rows_core.specs.declared.pattern.Spot.TheVariants.{Term as Fixed, Var}
use Rattle.rows_core.specs.declared.pattern.TriplePattern.{TriplePattern}
use Rattle.rows_core.specs.Rows.{Cells, projected}
use Rattle.std.specs.List.{list_all}
use Rattle.std.specs.declared.cmp.Ordering.{Ordering}
use Rattle.expr_eval.specs.declared.expr.Expr.{Expr, fold-Expr}
use Rattle.expr_eval.specs.declared.expr.Expr.TheOpen.{Expr-F}
use Rattle.algebra_core.specs.declared.query.Key.{Key}
use Rattle.algebra_core.specs.declared.query.Query.{Query}
use Rattle.algebra_core.specs.Graphs.{once, graph}
use Rattle.algebra_core.specs.Meaning.{eval, is_plain, patterns_in, expressions_in}
use Rattle.algebra_core.specs.Order.{in_order, row_cmp}

-- a variable in the spot has a number below the width
abbrev pub IsBelow : ℕ → Spot → Type 0
IsBelow width (Fixed t) = Unit {0}
IsBelow width (Var v) = v < width

abbrev pub whole_step : ℕ → Expr-F Bool → Bool
whole_step width (Expr-F.Var v) = nat_lt v width
whole_step width (Expr-F.Constant term) = true
whole_step width (Expr-F.Or parts) = nat_lt 1 (length parts) && list_all (λ part. part) parts
whole_step width (Expr-F.And parts) = nat_lt 1 (length parts) && list_all (λ part. part) parts
whole_step width (Expr-F.Not part) = part
whole_step width (Expr-F.Compare op left right) = left && right
whole_step width (Expr-F.Sum first rest) = nat_lt 0 (length rest) && (first && list_all (λ part. part.1) rest)
whole_step width (Expr-F.Signed sign part) = part
whole_step width (Expr-F.Bound v) = nat_lt v width
whole_step width (Expr-F.Call function part) = part
whole_step width (Expr-F.SameTerm left right) = left && right

-- variables are below the width, each Or and And has two members or more, and each Sum a second operand
abbrev pub is_whole : ℕ → Expr → Bool
is_whole width = fold-Expr Bool (whole_step width)

abbrev pub key_expr : Key → Expr
key_expr k = k.expr

-- what is asked of a query beside its grammar: names differ and are at most the width, selected variables have names and stand once, variables are below the width, expressions are whole
pub record IsValid (q : Query) : Type 0 where
  pub names_differ : Apart q.names
  pub names_fit : length q.names ≤ q.width
  pub selected : (v : ℕ) → IsIn q.select v → v < length q.names
  pub selected_once : Apart q.select
  pub patterns_below : (p : TriplePattern) → IsIn (patterns_in q.body) p → IsBelow q.width p.s × IsBelow q.width p.p × IsBelow q.width p.o
  pub expressions_whole : (e : Expr) → IsIn (expressions_in q.body ++ map key_expr q.order) e → is_whole q.width e ≡ true

-- no optional part stands in the body, and there is no key
abbrev pub IsMonotone : Query → Type 0
IsMonotone q = (is_plain q.body ≡ true) × (q.order ≡ [])

-- the rows are equal cell by cell
abbrev pub same_row : Cells → Cells → Bool
same_row = pointwise (option_eq same_term)

-- the first of each equal rows, where it is asked for (section 18.5, Distinct)
abbrev pub distinct_if : Bool → List Cells → List Cells
distinct_if distinct rows = if distinct then once same_row rows else rows

-- the rows of the body over the triples as a set
abbrev pub body_rows : Query → List Triple → List Cells
body_rows q triples = eval q.body q.width (length q.names) (graph triples)

-- the rows in order, where there are keys (section 15.1)
abbrev pub ordered_if : List Key → (Cells → Cells → Ordering) → List Cells → List Cells
ordered_if [] cmp rows = rows
ordered_if (k ∷ ks) cmp rows = in_order cmp rows

-- the rows of the body in order, then projected, then distinct (section 18.5: OrderBy, Project, Distinct)
abbrev pub solutions : Query → List Triple → List Cells
solutions q triples = distinct_if q.distinct (map (projected q.select) (ordered_if q.order (row_cmp q) (body_rows q triples)))

-- the rows are those wanted: as a list where there are keys, else as a bag
abbrev pub answers_by : List Key → List Cells → List Cells → Type 0
answers_by [] wanted rows = IsPermutation wanted rows
answers_by (k ∷ ks) wanted rows = rows ≡ wanted

-- the rows are the solutions of the query over the triples as a set
abbrev pub Answers : Query → List Triple → List Cells → Type 0
Answers q triples rows = answers_by q.order (solutions q triples) rows

-- What an expression of the algebra gives over a graph, after SPARQL 1.1 Query Language, section 18.5.
use Rattle.std.specs.Prelude.{ℕ, zero, suc, Bool, true, ◌&&◌, List, [], ◌∷◌, ◌++◌, Option, None, false, if◌then◌else◌, map, filter, slice_get}
use Rattle.std.specs.List.{flat_map}
use Rattle.rdf_terms.specs.declared.term.Term.{Term}
use Rattle.rdf_terms.specs.declared.triple.Triple.{Triple}
use Rattle.rows_core.specs.declared.pattern.TriplePattern.{TriplePattern}
use Rattle.expr_eval.specs.declared.expr.Expr.{Expr}
use Rattle.expr_eval.specs.Value.{value_of, truth_of, is_true}
use Rattle.rows_core.specs.Rows.{Cells, fits, merged, unbound, cell_or_unbound}
use Rattle.algebra_core.specs.declared.algebra.Algebra.{Algebra, fold-Algebra}
use Rattle.algebra_core.specs.declared.algebra.Algebra.TheOpen.{Algebra-F}
use Rattle.algebra_core.specs.Graphs.{all_extended}

-- the merge of two rows, where they are compatible (section 18.3)
abbrev pub joined : Cells → Cells → List Cells
joined a b = if fits a b then merged a b ∷ [] else []

-- Join: for each row of the first list, for each compatible one of the second, their merge
abbrev pub join : List Cells → List Cells → List Cells
join xs ys = flat_map (λ a. flat_map (joined a) ys) xs

-- the row without the bindings of the variables from a number on; these are the blank nodes of patterns (section 18.3.1: a solution is the restriction to the variables)
abbrev pub restricted : ℕ → Cells → Cells
restricted n [] = []
restricted zero (c ∷ cs) = None ∷ restricted zero cs
restricted (suc n) (c ∷ cs) = c ∷ restricted n cs

-- the term of each variable that the row binds
abbrev pub bindings_of : Cells → ℕ → Option Term
bindings_of row v = cell_or_unbound (slice_get row v)

-- the expression's effective boolean value on the row is true; a type error is not (section 17.2)
abbrev pub holds : Expr → Cells → Bool
holds e row = is_true (truth_of (value_of e (bindings_of row)))

abbrev pub or_alone : Cells → List Cells → List Cells
or_alone a [] = a ∷ []
or_alone a (r ∷ rs) = r ∷ rs

-- LeftJoin: for each row of the first list the merges with compatible rows of the second that pass the test; where there are none, the row itself. That this is the standard's union of a filtered Join and Diff is a law, `left_join_is_join_and_rest`
abbrev pub left_joined : (Cells → Bool) → List Cells → List Cells → List Cells
left_joined p xs ys = flat_map (λ a. or_alone a (filter p (flat_map (joined a) ys))) xs

-- the rows of a width, from the number of names, over a graph: a list of triples in which each stands once; `body_rows` gives it such a list, and the laws `each_triple_stands_once` and `expressions_ignore_order` say what follows
abbrev pub Value : Type 0
Value = ℕ → ℕ → List Triple → List Cells

-- a basic graph pattern: the solutions, then without the blank nodes; Join: the merges of compatible pairs; Union: both lists; Filter: the rows on which it holds; LeftJoin: with the optional part where there is one
abbrev pub eval_step : Algebra-F Value → Value
eval_step (Algebra-F.Bgp ps) width names g = map (restricted names) (all_extended ps g (unbound width ∷ []))
eval_step (Algebra-F.Join a b) width names g = join (a width names g) (b width names g)
eval_step (Algebra-F.Union a b) width names g = a width names g ++ b width names g
eval_step (Algebra-F.Filter e a) width names g = filter (holds e) (a width names g)
eval_step (Algebra-F.LeftJoin a b e) width names g = left_joined (holds e) (a width names g) (b width names g)

-- what the expression gives; the order of the list means nothing
abbrev pub eval : Algebra → Value
eval = fold-Algebra Value eval_step

abbrev pub patterns_step : Algebra-F (List TriplePattern) → List TriplePattern
patterns_step (Algebra-F.Bgp ps) = ps
patterns_step (Algebra-F.Join a b) = a ++ b
patterns_step (Algebra-F.Union a b) = a ++ b
patterns_step (Algebra-F.Filter e a) = a
patterns_step (Algebra-F.LeftJoin a b e) = a ++ b

-- the patterns of the basic graph patterns, from left to right
abbrev pub patterns_in : Algebra → List TriplePattern
patterns_in = fold-Algebra (List TriplePattern) patterns_step

abbrev pub plain_step : Algebra-F Bool → Bool
plain_step (Algebra-F.Bgp ps) = true
plain_step (Algebra-F.Join a b) = a && b
plain_step (Algebra-F.Union a b) = a && b
plain_step (Algebra-F.Filter e a) = a
plain_step (Algebra-F.LeftJoin a b e) = false

-- no optional part stands in the expression
abbrev pub is_plain : Algebra → Bool
is_plain = fold-Algebra Bool plain_step

abbrev pub expressions_step : Algebra-F (List Expr) → List Expr
expressions_step (Algebra-F.Bgp ps) = []
expressions_step (Algebra-F.Join a b) = a ++ b
expressions_step (Algebra-F.Union a b) = a ++ b
expressions_step (Algebra-F.Filter e a) = e ∷ a
expressions_step (Algebra-F.LeftJoin a b e) = e ∷ (a ++ b)

-- the expressions of filters and of optional parts
abbrev pub expressions_in : Algebra → List Expr
expressions_in = fold-Algebra (List Expr) expressions_step

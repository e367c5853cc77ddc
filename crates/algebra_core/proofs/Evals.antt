-- What an expression gives, by its outermost form.
use Rattle.std.proofs.Common.{rules, ◌≡◌, ap, ℕ, List, [], ◌∷◌, ◌++◌, map, filter}
use Rattle.rdf_terms.specs.declared.triple.Triple.{Triple}
use Rattle.rows_core.specs.declared.pattern.TriplePattern.{TriplePattern}
use Rattle.rows_core.specs.Rows.{unbound}
use Rattle.expr_eval.specs.declared.expr.Expr.{Expr}
use Rattle.algebra_core.specs.declared.algebra.Algebra.{Algebra, Bgp, Join, Union, Filter, LeftJoin, the_lemmas}
use Rattle.algebra_core.specs.declared.algebra.Algebra.TheOpen.{Algebra-F}
use Rattle.algebra_core.specs.Graphs.{all_extended}
use Rattle.algebra_core.specs.Meaning.{join, holds, left_joined, restricted, Value, eval_step, eval, patterns_in}

pub eval-Bgp : (ps : List TriplePattern) (width names : ℕ) (g : List Triple) → eval (Bgp ps) width names g ≡ map (restricted names) (all_extended ps g (unbound width ∷ []))
eval-Bgp ps width names g = let opened : eval (Bgp ps) ≡ eval_step (Algebra-F.Bgp ps) = search (rules, the_lemmas) in ap (λ (v : Value). v width names g) opened

pub eval-Join : (a b : Algebra) (width names : ℕ) (g : List Triple) → eval (Join a b) width names g ≡ join (eval a width names g) (eval b width names g)
eval-Join a b width names g = let opened : eval (Join a b) ≡ eval_step (Algebra-F.Join (eval a) (eval b)) = search (rules, the_lemmas) in ap (λ (v : Value). v width names g) opened

pub eval-Union : (a b : Algebra) (width names : ℕ) (g : List Triple) → eval (Union a b) width names g ≡ eval a width names g ++ eval b width names g
eval-Union a b width names g = let opened : eval (Union a b) ≡ eval_step (Algebra-F.Union (eval a) (eval b)) = search (rules, the_lemmas) in ap (λ (v : Value). v width names g) opened

pub eval-Filter : (e : Expr) (a : Algebra) (width names : ℕ) (g : List Triple) → eval (Filter e a) width names g ≡ filter (holds e) (eval a width names g)
eval-Filter e a width names g = let opened : eval (Filter e a) ≡ eval_step (Algebra-F.Filter e (eval a)) = search (rules, the_lemmas) in ap (λ (v : Value). v width names g) opened

pub eval-LeftJoin : (a b : Algebra) (e : Expr) (width names : ℕ) (g : List Triple) → eval (LeftJoin a b e) width names g ≡ left_joined (holds e) (eval a width names g) (eval b width names g)
eval-LeftJoin a b e width names g = let opened : eval (LeftJoin a b e) ≡ eval_step (Algebra-F.LeftJoin (eval a) (eval b) e) = search (rules, the_lemmas) in ap (λ (v : Value). v width names g) opened

pub ruleset evals = (eval-Bgp, eval-Join, eval-Union, eval-Filter, eval-LeftJoin)

pub patterns-Bgp : (ps : List TriplePattern) → patterns_in (Bgp ps) ≡ ps
patterns-Bgp ps = search (rules, the_lemmas)

pub patterns-Join : (a b : Algebra) → patterns_in (Join a b) ≡ patterns_in a ++ patterns_in b
patterns-Join a b = search (rules, the_lemmas)

pub patterns-Union : (a b : Algebra) → patterns_in (Union a b) ≡ patterns_in a ++ patterns_in b
patterns-Union a b = search (rules, the_lemmas)

pub patterns-Filter : (e : Expr) (a : Algebra) → patterns_in (Filter e a) ≡ patterns_in a
patterns-Filter e a = search (rules, the_lemmas)

pub patterns-LeftJoin : (a b : Algebra) (e : Expr) → patterns_in (LeftJoin a b e) ≡ patterns_in a ++ patterns_in b
patterns-LeftJoin a b e = search (rules, the_lemmas)

pub ruleset patterns = (patterns-Bgp, patterns-Join, patterns-Union, patterns-Filter, patterns-LeftJoin)

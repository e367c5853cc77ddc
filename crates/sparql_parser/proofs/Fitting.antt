-- Patterns and expressions with variables below the width: what the parts of a query make of such ones is such a one.
use Rattle.std.proofs.Common.{◌≡◌, ◌<◌, ℕ, List, [], ◌∷◌, ◌++◌, Bool, true, false, map, length, refl, sym, subst, ◌∙◌, inl, inr, rules, arith, if◌then◌else◌}
use Rattle.std.specs.Prelude.{◌&&◌, nat_lt}
use Rattle.std.specs.List.{list_all}
use Rattle.std.proofs.lemmas.Bool.{lt-ltb}
use Rattle.rdf_terms.specs.Lists.{IsIn}
use Rattle.rdf_terms.specs.declared.term.Term.{Term}
use Rattle.rdf_terms.proofs.Members.{in_either}
use Rattle.rows_core.specs.declared.pattern.TriplePattern.{TriplePattern}
use Rattle.expr_eval.specs.declared.expr.CompareOp.{CompareOp}
use Rattle.expr_eval.specs.declared.expr.Function.{Function}
use Rattle.expr_eval.specs.declared.expr.Sign.{Sign}
use Rattle.expr_eval.specs.declared.expr.Expr.{Expr, Constant, Or, And, Compare, Sum, Signed, Bound, SameTerm}
use Rattle.expr_eval.specs.declared.expr.Expr.{Var as Variable, Not as Negation, Call as Application, the_lemmas as expr_lemmas}
use Rattle.algebra_core.specs.declared.algebra.Algebra.{Algebra, Bgp, Join, Union, Filter, LeftJoin, the_lemmas}
use Rattle.algebra_core.specs.declared.query.Key.{Key}
use Rattle.algebra_core.specs.Meaning.{patterns_in, expressions_in}
use Rattle.algebra_core.specs.Query.{IsBelow, is_whole}
use Rattle.algebra_translation.specs.Translation.{is_nothing, joined, with_pending_bgp, conjunction, true_term, PartialGroup, Grouped, empty_group, finish_group, filtered, filtered_by, with_filter, with_triples, with_group, with_option}

-- ---- members

abbrev pub Each : {X : Type 0} → (X → Type 0) → List X → Type 0
Each {X} P xs = (x : X) → IsIn xs x → P x

pub each_nil : {X : Type 0} (P : X → Type 0) → Each P []
each_nil P x h = absurd h

pub each_one : {X : Type 0} (P : X → Type 0) (x : X) → P x → Each P (x ∷ [])
each_one P x p y (inl e) = subst P e p
each_one P x p y (inr h) = absurd h

pub each_cons : {X : Type 0} (P : X → Type 0) (x : X) (xs : List X) → P x → Each P xs → Each P (x ∷ xs)
each_cons P x xs p ps y (inl e) = subst P e p
each_cons P x xs p ps y (inr h) = ps y h

pub each_both : {X : Type 0} (P : X → Type 0) (xs ys : List X) → Each P xs → Each P ys → Each P (xs ++ ys)
each_both P xs ys p q x h = elim (in_either xs ys x h) [ inl a ↦ p x a | inr b ↦ q x b ]

pub each_push : {X : Type 0} (P : X → Type 0) (xs : List X) (x : X) → Each P xs → P x → Each P (xs ++ x ∷ [])
each_push P xs x ps p = each_both P xs (x ∷ []) ps (each_one P x p)

pub each_head : {X : Type 0} (P : X → Type 0) (x : X) (xs : List X) → Each P (x ∷ xs) → P x
each_head P x xs h = h x (inl refl)

pub each_tail : {X : Type 0} (P : X → Type 0) (x : X) (xs : List X) → Each P (x ∷ xs) → Each P xs
each_tail P x xs h y i = h y (inr i)

and_true : (a b : Bool) → a ≡ true → b ≡ true → (a && b) ≡ true
and_true true b p q = q
and_true false b p q = absurd (cc)

module _ (width : ℕ) where
  -- ---- expressions

  abbrev pub FitsExpr : Expr → Type 0
  FitsExpr e = is_whole width e ≡ true

  abbrev pub FitsOperand : Sign × Expr → Type 0
  FitsOperand x = FitsExpr x.1

  abbrev pub FitsKey : Key → Type 0
  FitsKey k = FitsExpr k.expr

  all_fit : (es : List Expr) → Each FitsExpr es → list_all (λ part. part) (map (is_whole width) es) ≡ true
  all_fit [] h = refl
  all_fit (e ∷ es) h = and_true (is_whole width e) (list_all (λ part. part) (map (is_whole width) es)) (each_head FitsExpr e es h) (all_fit es (each_tail FitsExpr e es h))

  pub fits_variable : (n : ℕ) → n < width → FitsExpr (Variable n)
  fits_variable n lt = let opened : is_whole width (Variable n) ≡ nat_lt n width = search (rules, expr_lemmas) in opened ∙ grind (arith, lt)

  pub fits_bound : (n : ℕ) → n < width → FitsExpr (Bound n)
  fits_bound n lt = let opened : is_whole width (Bound n) ≡ nat_lt n width = search (rules, expr_lemmas) in opened ∙ grind (arith, lt)

  pub fits_constant : (t : Term) → FitsExpr (Constant t)
  fits_constant t = search (rules, expr_lemmas)

  pub fits_not : (e : Expr) → FitsExpr e → FitsExpr (Negation e)
  fits_not e h = let opened : is_whole width (Negation e) ≡ is_whole width e = search (rules, expr_lemmas) in opened ∙ h

  pub fits_signed : (s : Sign) (e : Expr) → FitsExpr e → FitsExpr (Signed s e)
  fits_signed s e h = let opened : is_whole width (Signed s e) ≡ is_whole width e = search (rules, expr_lemmas) in opened ∙ h

  pub fits_call : (f : Function) (e : Expr) → FitsExpr e → FitsExpr (Application f e)
  fits_call f e h = let opened : is_whole width (Application f e) ≡ is_whole width e = search (rules, expr_lemmas) in opened ∙ h

  pub fits_compare : (op : CompareOp) (a b : Expr) → FitsExpr a → FitsExpr b → FitsExpr (Compare op a b)
  fits_compare op a b g h = let opened : is_whole width (Compare op a b) ≡ (is_whole width a && is_whole width b) = search (rules, expr_lemmas) in opened ∙ and_true (is_whole width a) (is_whole width b) g h

  pub fits_same : (a b : Expr) → FitsExpr a → FitsExpr b → FitsExpr (SameTerm a b)
  fits_same a b g h = let opened : is_whole width (SameTerm a b) ≡ (is_whole width a && is_whole width b) = search (rules, expr_lemmas) in opened ∙ and_true (is_whole width a) (is_whole width b) g h

  -- two members or more
  abbrev pub FitMany : List Expr → Type 0
  FitMany es = (nat_lt 1 (length (map (is_whole width) es)) ≡ true) × Each FitsExpr es

  pub fits_or : (es : List Expr) → FitMany es → FitsExpr (Or es)
  fits_or es h =
      let opened : is_whole width (Or es) ≡ (nat_lt 1 (length (map (is_whole width) es)) && list_all (λ part. part) (map (is_whole width) es)) = search (rules, expr_lemmas) in
      opened ∙ and_true (nat_lt 1 (length (map (is_whole width) es))) (list_all (λ part. part) (map (is_whole width) es)) h.0 (all_fit es h.1)

  pub fits_and : (es : List Expr) → FitMany es → FitsExpr (And es)
  fits_and es h =
      let opened : is_whole width (And es) ≡ (nat_lt 1 (length (map (is_whole width) es)) && list_all (λ part. part) (map (is_whole width) es)) = search (rules, expr_lemmas) in
      opened ∙ and_true (nat_lt 1 (length (map (is_whole width) es))) (list_all (λ part. part) (map (is_whole width) es)) h.0 (all_fit es h.1)

  pub many_two : (a b : Expr) → FitsExpr a → FitsExpr b → FitMany (a ∷ b ∷ [])
  many_two a b g h = (refl, each_cons FitsExpr a (b ∷ []) g (each_one FitsExpr b h))

  long_push : (es : List Expr) (e : Expr) → nat_lt 1 (length (map (is_whole width) es)) ≡ true → nat_lt 1 (length (map (is_whole width) (es ++ e ∷ []))) ≡ true
  long_push [] e h = absurd (cc)
  long_push (a ∷ []) e h = refl
  long_push (a ∷ b ∷ es) e h = lt-ltb 1 (length (map (is_whole width) (a ∷ b ∷ (es ++ e ∷ [])))) (omega arith)

  pub many_push : (es : List Expr) (e : Expr) → FitMany es → FitsExpr e → FitMany (es ++ e ∷ [])
  many_push es e h g = (long_push es e h.0, each_push FitsExpr es e h.1 g)

  -- one operand or more
  abbrev under : Sign × Expr → Sign × Bool
  under x = (x.0, is_whole width x.1)

  abbrev pub FitSome : List (Sign × Expr) → Type 0
  FitSome xs = (nat_lt 0 (length (map under xs)) ≡ true) × Each FitsOperand xs

  operands_fit : (xs : List (Sign × Expr)) → Each FitsOperand xs → list_all (λ part. part.1) (map under xs) ≡ true
  operands_fit [] h = refl
  operands_fit (x ∷ xs) h = and_true (is_whole width x.1) (list_all (λ part. part.1) (map under xs)) (each_head FitsOperand x xs h) (operands_fit xs (each_tail FitsOperand x xs h))

  pub some_one : (s : Sign) (e : Expr) → FitsExpr e → FitSome ((s, e) ∷ [])
  some_one s e h = (refl, each_one FitsOperand (s, e) h)

  some_long : (xs : List (Sign × Expr)) (x : Sign × Expr) → nat_lt 0 (length (map under (xs ++ x ∷ []))) ≡ true
  some_long [] x = refl
  some_long (y ∷ ys) x = lt-ltb 0 (length (map under (y ∷ (ys ++ x ∷ [])))) (omega arith)

  pub some_push : (xs : List (Sign × Expr)) (s : Sign) (e : Expr) → FitSome xs → FitsExpr e → FitSome (xs ++ (s, e) ∷ [])
  some_push xs s e h g = (some_long xs (s, e), each_push FitsOperand xs (s, e) h.1 g)

  pub fits_sum : (e : Expr) (xs : List (Sign × Expr)) → FitsExpr e → FitSome xs → FitsExpr (Sum e xs)
  fits_sum e xs g h =
      let opened : is_whole width (Sum e xs) ≡ (nat_lt 0 (length (map under xs)) && (is_whole width e && list_all (λ part. part.1) (map under xs))) = search (rules, expr_lemmas) in
      opened ∙ and_true (nat_lt 0 (length (map under xs))) _ h.0 (and_true (is_whole width e) (list_all (λ part. part.1) (map under xs)) g (operands_fit xs h.1))

  -- ---- the algebra

  abbrev pub FitsPattern : TriplePattern → Type 0
  FitsPattern p = IsBelow width p.s × IsBelow width p.p × IsBelow width p.o

  pub record FitsAlgebra (a : Algebra) : Type 0 where
    pub patterns : Each FitsPattern (patterns_in a)
    pub expressions : Each FitsExpr (expressions_in a)

  pub fits_bgp : (ps : List TriplePattern) → Each FitsPattern ps → FitsAlgebra (Bgp ps)
  fits_bgp ps h =
      let p : patterns_in (Bgp ps) ≡ ps = search (rules, the_lemmas) in
      let e : expressions_in (Bgp ps) ≡ [] = search (rules, the_lemmas) in
      record { patterns = subst (λ (l : List TriplePattern). Each FitsPattern l) (sym p) h; expressions = subst (λ (l : List Expr). Each FitsExpr l) (sym e) (each_nil FitsExpr) }

  pub fits_join : (a b : Algebra) → FitsAlgebra a → FitsAlgebra b → FitsAlgebra (Join a b)
  fits_join a b f g =
      let p : patterns_in (Join a b) ≡ patterns_in a ++ patterns_in b = search (rules, the_lemmas) in
      let e : expressions_in (Join a b) ≡ expressions_in a ++ expressions_in b = search (rules, the_lemmas) in
      record {
        patterns = subst (λ (l : List TriplePattern). Each FitsPattern l) (sym p) (each_both FitsPattern (patterns_in a) (patterns_in b) f.patterns g.patterns);
        expressions = subst (λ (l : List Expr). Each FitsExpr l) (sym e) (each_both FitsExpr (expressions_in a) (expressions_in b) f.expressions g.expressions);
      }

  pub fits_union : (a b : Algebra) → FitsAlgebra a → FitsAlgebra b → FitsAlgebra (Union a b)
  fits_union a b f g =
      let p : patterns_in (Union a b) ≡ patterns_in a ++ patterns_in b = search (rules, the_lemmas) in
      let e : expressions_in (Union a b) ≡ expressions_in a ++ expressions_in b = search (rules, the_lemmas) in
      record {
        patterns = subst (λ (l : List TriplePattern). Each FitsPattern l) (sym p) (each_both FitsPattern (patterns_in a) (patterns_in b) f.patterns g.patterns);
        expressions = subst (λ (l : List Expr). Each FitsExpr l) (sym e) (each_both FitsExpr (expressions_in a) (expressions_in b) f.expressions g.expressions);
      }

  pub fits_filter : (x : Expr) (a : Algebra) → FitsExpr x → FitsAlgebra a → FitsAlgebra (Filter x a)
  fits_filter x a h f =
      let p : patterns_in (Filter x a) ≡ patterns_in a = search (rules, the_lemmas) in
      let e : expressions_in (Filter x a) ≡ x ∷ expressions_in a = search (rules, the_lemmas) in
      record {
        patterns = subst (λ (l : List TriplePattern). Each FitsPattern l) (sym p) f.patterns;
        expressions = subst (λ (l : List Expr). Each FitsExpr l) (sym e) (each_cons FitsExpr x (expressions_in a) h f.expressions);
      }

  pub fits_left_join : (a b : Algebra) (x : Expr) → FitsAlgebra a → FitsAlgebra b → FitsExpr x → FitsAlgebra (LeftJoin a b x)
  fits_left_join a b x f g h =
      let p : patterns_in (LeftJoin a b x) ≡ patterns_in a ++ patterns_in b = search (rules, the_lemmas) in
      let e : expressions_in (LeftJoin a b x) ≡ x ∷ (expressions_in a ++ expressions_in b) = search (rules, the_lemmas) in
      record {
        patterns = subst (λ (l : List TriplePattern). Each FitsPattern l) (sym p) (each_both FitsPattern (patterns_in a) (patterns_in b) f.patterns g.patterns);
        expressions = subst (λ (l : List Expr). Each FitsExpr l) (sym e) (each_cons FitsExpr x _ h (each_both FitsExpr (expressions_in a) (expressions_in b) f.expressions g.expressions));
      }

  either : (c : Bool) (a b : Algebra) → FitsAlgebra a → FitsAlgebra b → FitsAlgebra (if c then a else b)
  either true a b f g = f
  either false a b f g = g

  fits_joined : (a b : Algebra) → FitsAlgebra a → FitsAlgebra b → FitsAlgebra (joined a b)
  fits_joined a b f g = either (is_nothing a) b _ g (either (is_nothing b) a (Join a b) f (fits_join a b f g))

  fits_with_pending_bgp : (a : Algebra) (ps : List TriplePattern) → FitsAlgebra a → Each FitsPattern ps → FitsAlgebra (with_pending_bgp a ps)
  fits_with_pending_bgp a ps f h = fits_joined a (Bgp ps) f (fits_bgp ps h)

  fits_conjunction : (es : List Expr) → Each FitsExpr es → FitsExpr (conjunction es)
  fits_conjunction [] h = fits_constant true_term
  fits_conjunction (e ∷ []) h = each_head FitsExpr e [] h
  fits_conjunction (e ∷ f ∷ es) h = fits_and (e ∷ f ∷ es) (lt-ltb 1 (length (map (is_whole width) (e ∷ f ∷ es))) (omega arith), h)

  -- ---- groups

  pub record FitsPartialGroup (s : PartialGroup) : Type 0 where
    pub algebra : FitsAlgebra s.algebra
    pub patterns : Each FitsPattern s.patterns
    pub filters : Each FitsExpr s.filters

  pub record FitsGroup (g : Grouped) : Type 0 where
    pub algebra : FitsAlgebra g.algebra
    pub filters : Each FitsExpr g.filters

  pub fits_empty : FitsPartialGroup empty_group
  fits_empty = record { algebra = fits_bgp [] (each_nil FitsPattern); patterns = each_nil FitsPattern; filters = each_nil FitsExpr }

  pub fits_finished : (s : PartialGroup) → FitsPartialGroup s → FitsGroup (finish_group s)
  fits_finished s f = record { algebra = fits_with_pending_bgp s.algebra s.patterns f.algebra f.patterns; filters = f.filters }

  fits_filtered_by : (es : List Expr) (a : Algebra) → Each FitsExpr es → FitsAlgebra a → FitsAlgebra (filtered_by es a)
  fits_filtered_by [] a h f = f
  fits_filtered_by (e ∷ es) a h f = fits_filter (conjunction (e ∷ es)) a (fits_conjunction (e ∷ es) h) f

  pub fits_filtered : (g : Grouped) → FitsGroup g → FitsAlgebra (filtered g)
  fits_filtered g f = fits_filtered_by g.filters g.algebra f.filters f.algebra

  pub fits_with_filter : (s : PartialGroup) (e : Expr) → FitsPartialGroup s → FitsExpr e → FitsPartialGroup (with_filter s e)
  fits_with_filter s e f h = record { algebra = f.algebra; patterns = f.patterns; filters = each_push FitsExpr s.filters e f.filters h }

  pub fits_with_triples : (s : PartialGroup) (ps : List TriplePattern) → FitsPartialGroup s → Each FitsPattern ps → FitsPartialGroup (with_triples s ps)
  fits_with_triples s ps f h = record { algebra = f.algebra; patterns = h; filters = f.filters }

  pub fits_with_group : (s : PartialGroup) (a : Algebra) → FitsPartialGroup s → FitsAlgebra a → FitsPartialGroup (with_group s a)
  fits_with_group s a f g =
      record { algebra = fits_joined (with_pending_bgp s.algebra s.patterns) a (fits_with_pending_bgp s.algebra s.patterns f.algebra f.patterns) g; patterns = each_nil FitsPattern; filters = f.filters }

  pub fits_with_option : (s : PartialGroup) (g : Grouped) → FitsPartialGroup s → FitsGroup g → FitsPartialGroup (with_option s g)
  fits_with_option s g f h =
      record {
        algebra = fits_left_join (with_pending_bgp s.algebra s.patterns) g.algebra (conjunction g.filters) (fits_with_pending_bgp s.algebra s.patterns f.algebra f.patterns) h.algebra (fits_conjunction g.filters h.filters);
        patterns = each_nil FitsPattern;
        filters = f.filters;
      }

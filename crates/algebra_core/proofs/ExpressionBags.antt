-- The laws of expressions, case by case.
use Rattle.std.proofs.Common.{rules, ◌≡◌, Bool, true, false, List, [], ◌∷◌, filter, flat_map, sym, ◌∙◌, arith, IsPermutation}
use Rattle.std.specs.Prelude.{◌&&◌}
use Rattle.std.proofs.lemmas.List.Sorted.{IsPermutation-refl, length_permutation}
use Rattle.rdf_terms.specs.declared.triple.Triple.{Triple}
use Rattle.rows_core.specs.declared.pattern.TriplePattern.{TriplePattern}
use Rattle.rows_core.specs.Rows.{Cells, unbound}
use Rattle.rows_core.specs.Bindings.{extensions}
use Rattle.rows_core.proofs.Matching.{and_both}
use Rattle.algebra_core.specs.declared.algebra.Algebra.{Algebra, Bgp, Join, Union, Filter, LeftJoin, the_lemmas}
use Rattle.algebra_core.specs.Graphs.{extended, all_extended}
use Rattle.expr_eval.specs.declared.expr.Expr.{Expr}
use Rattle.algebra_core.specs.Meaning.{joined, join, holds, or_alone, left_joined, restricted, is_plain}
use Rattle.algebra_core.specs.Bags.{IsSubBag}
use Rattle.algebra_core.specs.Laws.{IgnoresOrder, Grows}
use Rattle.algebra_core.proofs.Bags.{same_bag, then_bag, back, both, flat_bag, flat_each, filter_bag, map_bag}
use Rattle.algebra_core.proofs.SubBags.{sub_refl, sub_same, sub_trans, sub_append, sub_flat, sub_each, sub_map, sub_filter}
use Rattle.algebra_core.proofs.Evals.{eval-Bgp, eval-Join, eval-Union, eval-Filter, eval-LeftJoin}

-- ---- bags

extended_bag : (p : TriplePattern) (g h : List Triple) (rs ss : List Cells) → IsPermutation g h → IsPermutation rs ss → IsPermutation (extended p g rs) (extended p h ss)
extended_bag p g h rs ss b c =
    then_bag (flat_each (λ row. flat_map (λ t. extensions p t row) g) (λ row. flat_map (λ t. extensions p t row) h) (λ row. flat_bag (λ t. extensions p t row) g h b) rs)
    (flat_bag (λ row. flat_map (λ t. extensions p t row) h) rs ss c)

all_extended_bag : (ps : List TriplePattern) (g h : List Triple) (rs ss : List Cells) → IsPermutation g h → IsPermutation rs ss → IsPermutation (all_extended ps g rs) (all_extended ps h ss)
all_extended_bag [] g h rs ss b c = c
all_extended_bag (p ∷ ps) g h rs ss b c = all_extended_bag ps g h (extended p g rs) (extended p h ss) b (extended_bag p g h rs ss b c)

join_bags : (xs us ys vs : List Cells) → IsPermutation xs us → IsPermutation ys vs → IsPermutation (join xs ys) (join us vs)
join_bags xs us ys vs p q =
    then_bag (flat_each (λ a. flat_map (joined a) ys) (λ a. flat_map (joined a) vs) (λ a. flat_bag (joined a) ys vs q) xs)
    (flat_bag (λ a. flat_map (joined a) vs) xs us p)

or_alone_bag : (a : Cells) (xs ys : List Cells) → IsPermutation xs ys → IsPermutation (or_alone a xs) (or_alone a ys)
or_alone_bag a [] [] p = IsPermutation-refl (a ∷ [])
or_alone_bag a [] (y ∷ ys) p = absurd (omega (arith, length_permutation _ _ p))
or_alone_bag a (x ∷ xs) [] p = absurd (omega (arith, length_permutation _ _ p))
or_alone_bag a (x ∷ xs) (y ∷ ys) p = p

left_bags : (p : Cells → Bool) (xs us ys vs : List Cells) → IsPermutation xs us → IsPermutation ys vs → IsPermutation (left_joined p xs ys) (left_joined p us vs)
left_bags p xs us ys vs h k =
    then_bag (flat_each (λ a. or_alone a (filter p (flat_map (joined a) ys))) (λ a. or_alone a (filter p (flat_map (joined a) vs)))
    (λ a. or_alone_bag a _ _ (filter_bag p (flat_map (joined a) ys) (flat_map (joined a) vs) (flat_bag (joined a) ys vs k))) xs)
    (flat_bag (λ a. or_alone a (filter p (flat_map (joined a) vs))) xs us h)

-- a bag between two values
between : {X : Type 0} (a b c d : List X) → a ≡ b → d ≡ c → IsPermutation b c → IsPermutation a d
between a b c d e f p = then_bag (same_bag e) (then_bag p (back (same_bag f)))

pub order_Bgp : (ps : List TriplePattern) → IgnoresOrder (Bgp ps)
order_Bgp ps = record { bags = λ w n g h b. between _ _ _ _ (eval-Bgp ps w n g) (eval-Bgp ps w n h) (map_bag (restricted n) _ _ (all_extended_bag ps g h (unbound w ∷ []) (unbound w ∷ []) b (IsPermutation-refl _))) }

pub order_Join : (a b : Algebra) → IgnoresOrder a → IgnoresOrder b → IgnoresOrder (Join a b)
order_Join a b p q = record { bags = λ w n g h k. between _ _ _ _ (eval-Join a b w n g) (eval-Join a b w n h) (join_bags _ _ _ _ (p.bags w n g h k) (q.bags w n g h k)) }

pub order_Union : (a b : Algebra) → IgnoresOrder a → IgnoresOrder b → IgnoresOrder (Union a b)
order_Union a b p q = record { bags = λ w n g h k. between _ _ _ _ (eval-Union a b w n g) (eval-Union a b w n h) (both (p.bags w n g h k) (q.bags w n g h k)) }

pub order_Filter : (e : Expr) (a : Algebra) → IgnoresOrder a → IgnoresOrder (Filter e a)
order_Filter e a p = record { bags = λ w n g h k. between _ _ _ _ (eval-Filter e a w n g) (eval-Filter e a w n h) (filter_bag (holds e) _ _ (p.bags w n g h k)) }

pub order_LeftJoin : (a b : Algebra) (e : Expr) → IgnoresOrder a → IgnoresOrder b → IgnoresOrder (LeftJoin a b e)
order_LeftJoin a b e p q = record { bags = λ w n g h k. between _ _ _ _ (eval-LeftJoin a b e w n g) (eval-LeftJoin a b e w n h) (left_bags (holds e) _ _ _ _ (p.bags w n g h k) (q.bags w n g h k)) }

pub ruleset orders = (order_Bgp, order_Join, order_Union, order_Filter, order_LeftJoin)

-- ---- larger bags

extended_sub : (p : TriplePattern) (g h : List Triple) (rs ss : List Cells) → IsSubBag g h → IsSubBag rs ss → IsSubBag (extended p g rs) (extended p h ss)
extended_sub p g h rs ss b c =
    sub_trans _ _ _ (sub_each (λ row. flat_map (λ t. extensions p t row) g) (λ row. flat_map (λ t. extensions p t row) h) (λ row. sub_flat (λ t. extensions p t row) g h b) rs)
    (sub_flat (λ row. flat_map (λ t. extensions p t row) h) rs ss c)

all_extended_sub : (ps : List TriplePattern) (g h : List Triple) (rs ss : List Cells) → IsSubBag g h → IsSubBag rs ss → IsSubBag (all_extended ps g rs) (all_extended ps h ss)
all_extended_sub [] g h rs ss b c = c
all_extended_sub (p ∷ ps) g h rs ss b c = all_extended_sub ps g h (extended p g rs) (extended p h ss) b (extended_sub p g h rs ss b c)

join_sub : (xs us ys vs : List Cells) → IsSubBag xs us → IsSubBag ys vs → IsSubBag (join xs ys) (join us vs)
join_sub xs us ys vs p q =
    sub_trans _ _ _ (sub_each (λ a. flat_map (joined a) ys) (λ a. flat_map (joined a) vs) (λ a. sub_flat (joined a) ys vs q) xs)
    (sub_flat (λ a. flat_map (joined a) vs) xs us p)

amid : {X : Type 0} (a b c d : List X) → a ≡ b → d ≡ c → IsSubBag b c → IsSubBag a d
amid a b c d e f p = sub_trans a b d (sub_same a b e) (sub_trans b c d p (sub_same c d (sym f)))

plain-Join : (a b : Algebra) → is_plain (Join a b) ≡ (is_plain a && is_plain b)
plain-Join a b = search (rules, the_lemmas)

plain-Union : (a b : Algebra) → is_plain (Union a b) ≡ (is_plain a && is_plain b)
plain-Union a b = search (rules, the_lemmas)

pub grow_Bgp : (ps : List TriplePattern) → Grows (Bgp ps)
grow_Bgp ps = record { subs = λ e w n g h b. amid _ _ _ _ (eval-Bgp ps w n g) (eval-Bgp ps w n h) (sub_map (restricted n) _ _ (all_extended_sub ps g h (unbound w ∷ []) (unbound w ∷ []) b (sub_refl _))) }

pub grow_Join : (a b : Algebra) → Grows a → Grows b → Grows (Join a b)
grow_Join a b p q = record {
  subs = λ e w n g h k.
      let c = and_both (is_plain a) (is_plain b) (sym (plain-Join a b) ∙ e) in
      amid _ _ _ _ (eval-Join a b w n g) (eval-Join a b w n h) (join_sub _ _ _ _ (p.subs c.0 w n g h k) (q.subs c.1 w n g h k));
}

pub grow_Union : (a b : Algebra) → Grows a → Grows b → Grows (Union a b)
grow_Union a b p q = record {
  subs = λ e w n g h k.
      let c = and_both (is_plain a) (is_plain b) (sym (plain-Union a b) ∙ e) in
      amid _ _ _ _ (eval-Union a b w n g) (eval-Union a b w n h) (sub_append _ _ _ _ (p.subs c.0 w n g h k) (q.subs c.1 w n g h k));
}

plain-Filter : (e : Expr) (a : Algebra) → is_plain (Filter e a) ≡ is_plain a
plain-Filter e a = search (rules, the_lemmas)

plain-LeftJoin : (a b : Algebra) (e : Expr) → is_plain (LeftJoin a b e) ≡ false
plain-LeftJoin a b e = search (rules, the_lemmas)

pub grow_Filter : (e : Expr) (a : Algebra) → Grows a → Grows (Filter e a)
grow_Filter e a p = record {
  subs = λ c w n g h k. amid _ _ _ _ (eval-Filter e a w n g) (eval-Filter e a w n h) (sub_filter (holds e) _ _ (p.subs (sym (plain-Filter e a) ∙ c) w n g h k));
}

-- an expression with an optional part need not grow
pub grow_LeftJoin : (a b : Algebra) (e : Expr) → Grows (LeftJoin a b e)
grow_LeftJoin a b e = record { subs = λ c w n g h k. absurd (let z : false ≡ true = sym (plain-LeftJoin a b e) ∙ c in cc) }

pub ruleset growths = (grow_Bgp, grow_Join, grow_Union, grow_Filter, grow_LeftJoin)

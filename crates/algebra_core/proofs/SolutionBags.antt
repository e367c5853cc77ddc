-- The laws of a query's solutions, from those of its body.
use Rattle.std.proofs.Common.{◌≡◌, ℕ, Bool, true, false, List, [], ◌∷◌, ◌++◌, Option, Some, None, refl, sym, ◌∙◌, ap, ap₂, subst, inl, inr, map, length, append-nil, append_assoc, IsPermutation}
use Rattle.std.specs.Option.{option_eq}
use Rattle.rdf_terms.specs.declared.term.Term.{Term}
use Rattle.rdf_terms.specs.declared.triple.Triple.{Triple}
use Rattle.rdf_terms.specs.Lists.{IsIn, Apart, add_all}
use Rattle.rdf_terms.specs.Same.{same_term, same_triple}
use Rattle.rdf_terms.proofs.Deciding.{term_Decides}
use Rattle.rdf_terms.proofs.Adding.{Tells, Grown, grown_all, triple_tells, any_in, once_cases}
use Rattle.rows_core.specs.Rows.{Cells, projected}
use Rattle.rows_core.proofs.Matching.{and_both, both_and}
use Rattle.algebra_core.specs.declared.algebra.Algebra.{Algebra}
use Rattle.algebra_core.specs.declared.query.Key.{Key}
use Rattle.algebra_core.specs.declared.query.Query.{Query}
use Rattle.algebra_core.specs.Graphs.{once, graph}
use Rattle.algebra_core.specs.Meaning.{eval}
use Rattle.algebra_core.specs.Query.{same_row, distinct_if, body_rows, ordered_if, answers_by, Answers, IsMonotone, solutions}
use Rattle.algebra_core.specs.Order.{row_cmp}
use Rattle.algebra_core.specs.Bags.{IsSubBag, SameMembers, IsWithin}
use Rattle.algebra_core.specs.Laws.{IgnoresOrder, Grows}
use Rattle.algebra_core.proofs.Bags.{map_bag, back}
use Rattle.algebra_core.proofs.SubBags.{sub_map}
use Rattle.algebra_core.proofs.Members.{apart_sub, apart_bag, bag_within, apart_seam}
use Rattle.algebra_core.proofs.Ordered.{one_order}
use Rattle.algebra_core.proofs.Totals.{row_total, row_ties}
use Rattle.rdf_terms.proofs.Members.{in_left}

-- ---- the first of equal elements, where the test decides equality

abbrev Any : {X : Type 0} → X → Type 0
Any x = Unit {0}

grown : {X : Type 0} (same : X → X → Bool) → Tells same Any → (xs : List X) → Grown [] xs (once same xs)
grown same t xs = grown_all same Any [] xs t (λ y h. tt) (λ y h. tt)

in_empty : {X : Type 0} (more new xs : List X) → new ≡ [] ++ more → ((x : X) → IsIn more x → IsIn xs x) → IsWithin new xs
in_empty {X} more new xs e f x h = f x (Rattle.std.proofs.Common.subst (λ (l : List X). IsIn l x) e h)

pub once_within : {X : Type 0} (same : X → X → Bool) → Tells same Any → (xs : List X) → IsWithin (once same xs) xs
once_within same t xs = let g = grown same t xs in in_empty g.more (once same xs) xs g.is g.of

pub within_once : {X : Type 0} (same : X → X → Bool) → Tells same Any → (xs : List X) → IsWithin xs (once same xs)
within_once same t xs = (grown same t xs).all

pub once_apart : {X : Type 0} (same : X → X → Bool) → Tells same Any → (xs : List X) → Apart (once same xs)
once_apart same t xs = (grown same t xs).once tt

pub once_sub : {X : Type 0} (same : X → X → Bool) → Tells same Any → (xs ys : List X) → IsWithin xs ys → IsSubBag (once same xs) (once same ys)
once_sub same t xs ys w =
    apart_sub (once same xs) (once same ys) (once_apart same t xs) (once_apart same t ys) (λ x h. within_once same t ys x (w x (once_within same t xs x h)))

pub once_bag : {X : Type 0} (same : X → X → Bool) → Tells same Any → (xs ys : List X) → IsWithin xs ys → IsWithin ys xs → IsPermutation (once same xs) (once same ys)
once_bag same t xs ys w v =
    apart_bag (once same xs) (once same ys) (once_apart same t xs) (once_apart same t ys)
    (λ x h. within_once same t ys x (w x (once_within same t xs x h))) (λ x h. within_once same t xs x (v x (once_within same t ys x h)))

-- ---- rows

cell_same : (c d : Option Term) → option_eq same_term c d ≡ true → c ≡ d
cell_same None None h = refl
cell_same None (Some y) h = absurd (cc)
cell_same (Some x) None h = absurd (cc)
cell_same (Some x) (Some y) h = ap (λ (z : Term). Some z) ((term_Decides x y).0 h)

cell_own : (c : Option Term) → option_eq same_term c c ≡ true
cell_own None = refl
cell_own (Some x) = (term_Decides x x).1 refl

row_same : (a b : Cells) → same_row a b ≡ true → a ≡ b
row_same [] [] h = refl
row_same [] (d ∷ ds) h = absurd (cc)
row_same (c ∷ cs) [] h = absurd (cc)
row_same (c ∷ cs) (d ∷ ds) h = let p = and_both (option_eq same_term c d) (same_row cs ds) h in ap₂ (λ (x : Option Term) (xs : Cells). x ∷ xs) (cell_same c d p.0) (row_same cs ds p.1)

row_own : (a : Cells) → same_row a a ≡ true
row_own [] = refl
row_own (c ∷ cs) = both_and (option_eq same_term c c) (same_row cs cs) (cell_own c) (row_own cs)

pub row_tells : Tells same_row Any
row_tells = record { refl' = row_own; one = λ a b p q h. row_same a b h }

-- ---- solutions

distinct_bag : (b : Bool) (xs ys : List Cells) → IsPermutation xs ys → IsPermutation (distinct_if b xs) (distinct_if b ys)
distinct_bag true xs ys p = once_bag same_row row_tells xs ys (bag_within xs ys p) (bag_within ys xs (back p))
distinct_bag false xs ys p = p

sub_within : (xs ys : List Cells) → IsSubBag xs ys → IsWithin xs ys
sub_within xs ys s x h = bag_within (xs ++ s.more) ys s.is x (in_left xs s.more x h)

distinct_sub : (b : Bool) (xs ys : List Cells) → IsSubBag xs ys → IsSubBag (distinct_if b xs) (distinct_if b ys)
distinct_sub true xs ys s = once_sub same_row row_tells xs ys (sub_within xs ys s)
distinct_sub false xs ys s = s

abbrev restricted_rows : Query → List Cells → List Cells
restricted_rows q rows = distinct_if q.distinct (map (projected q.select) rows)

-- rows that are one bag lead to the same answers
answers_bag : (q : Query) (ks : List Key) (xs ys : List Cells) → IsPermutation xs ys → answers_by ks (restricted_rows q (ordered_if ks (row_cmp q) ys)) (restricted_rows q (ordered_if ks (row_cmp q) xs))
answers_bag q [] xs ys p = distinct_bag q.distinct (map (projected q.select) ys) (map (projected q.select) xs) (map_bag (projected q.select) ys xs (back p))
answers_bag q (k ∷ ks) xs ys p = ap (restricted_rows q) (one_order (row_cmp q) (row_total q) (row_ties q) xs ys p)

pub answers_again : (q : Query) → IgnoresOrder q.body → (g h : List Triple) → SameMembers g h → Answers q h (solutions q g)
answers_again q law g h same =
    answers_bag q q.order (body_rows q g) (body_rows q h)
    (law.bags q.width (length q.names) (graph g) (graph h) (once_bag same_triple triple_tells g h (λ t. (same t).0) (λ t. (same t).1)))

answers_own : (ks : List Key) (wanted rows : List Cells) → rows ≡ wanted → answers_by ks wanted rows
answers_own [] wanted rows e = subst (λ (l : List Cells). IsPermutation wanted l) (sym e) (Rattle.std.proofs.lemmas.List.Sorted.IsPermutation-refl wanted)
answers_own (k ∷ ks) wanted rows e = e

pub solutions_answer : (q : Query) (g : List Triple) (rows : List Cells) → rows ≡ solutions q g → Answers q g rows
solutions_answer q g rows e = answers_own q.order (solutions q g) rows e

-- the solutions, through what each step of the code gives
pub solutions_made : (q : Query) (g : List Triple) (select : List ℕ) (found sorted chosen kept rows : List Cells) → found ≡ body_rows q g → sorted ≡ ordered_if q.order (row_cmp q) found → select ≡ q.select
    → chosen ≡ map (projected select) sorted → kept ≡ distinct_if q.distinct chosen → rows ≡ kept → rows ≡ solutions q g
solutions_made q g select found sorted chosen kept rows a b c d e f =
    f ∙ (e ∙ ap (distinct_if q.distinct) (d ∙ ap₂ (λ (vs : List ℕ) (l : List Cells). map (projected vs) l) c (b ∙ ap (ordered_if q.order (row_cmp q)) a)))

-- a list with each member once is what is left of it
once_known : {X : Type 0} (same : X → X → Bool) → Tells same Any → (known xs : List X) → Apart (known ++ xs) → add_all same known xs ≡ known ++ xs
once_known same t known [] a = sym (append-nil known)
once_known {X} same t known (x ∷ xs) a =
    elim (once_cases same known x) [
      | inl p ↦
          let w = any_in (same x) known p.0 in
          absurd (apart_seam known xs x a (subst (λ (z : X). IsIn known z) (sym (t.one x w.0 tt tt w.2)) w.1))
      | inr q ↦
          ap (λ (l : List X). add_all same l xs) q.1
          ∙ (once_known same t (known ++ x ∷ []) xs (subst (λ (l : List X). Apart l) (sym (append_assoc known (x ∷ []) xs)) a) ∙ append_assoc known (x ∷ []) xs)
    ]

pub once_again : {X : Type 0} (same : X → X → Bool) → Tells same Any → (xs : List X) → Apart xs → once same xs ≡ xs
once_again same t xs a = once_known same t [] xs a

pub graph_same : (ts : List Triple) → SameMembers (graph ts) ts
graph_same ts t = (once_within same_triple triple_tells ts t, within_once same_triple triple_tells ts t)

-- two ways to list a graph give one bag
pub one_graph : (a : Algebra) → IgnoresOrder a → (width names : ℕ) (g h : List Triple) → Apart g → Apart h → SameMembers g h → IsPermutation (eval a width names g) (eval a width names h)
one_graph a law width names g h p q same = law.bags width names g h (apart_bag g h p q (λ t. (same t).0) (λ t. (same t).1))

-- what the body gives over a graph
pub body_rows_over : (q : Query) (g : List Triple) (width names : ℕ) (rows : List Cells) → Apart g → width ≡ q.width → names ≡ length q.names → rows ≡ eval q.body width names g → rows ≡ body_rows q g
body_rows_over q g width names rows a w n e =
    e ∙ (ap₂ (λ (x y : ℕ). eval q.body x y g) w n ∙ ap (eval q.body q.width (length q.names)) (sym (once_again same_triple triple_tells g a)))

-- a list of triples and its graph have the same solutions
pub solutions_once : (q : Query) (ts g : List Triple) (rows : List Cells) → g ≡ graph ts → rows ≡ solutions q g → rows ≡ solutions q ts
solutions_once q ts g rows e f =
    f
    ∙ (ap (solutions q) e
    ∙ ap (λ (l : List Triple). restricted_rows q (ordered_if q.order (row_cmp q) (eval q.body q.width (length q.names) l))) (once_again same_triple triple_tells (graph ts) (once_apart same_triple triple_tells ts)))

ordered_none : (ks : List Key) (q : Query) (xs ys : List Cells) → ks ≡ [] → IsSubBag xs ys → IsSubBag (ordered_if ks (row_cmp q) xs) (ordered_if ks (row_cmp q) ys)
ordered_none [] q xs ys e s = s
ordered_none (k ∷ ks) q xs ys e s = absurd (cc)

pub solutions_sub : (q : Query) → Grows q.body → IsMonotone q → (g h : List Triple) → IsWithin g h → IsSubBag (solutions q g) (solutions q h)
solutions_sub q law one g h within =
    distinct_sub q.distinct _ _
    (sub_map (projected q.select) _ _
    (ordered_none q.order q (body_rows q g) (body_rows q h) one.1
    (law.subs one.0 q.width (length q.names) (graph g) (graph h) (once_sub same_triple triple_tells g h within))))

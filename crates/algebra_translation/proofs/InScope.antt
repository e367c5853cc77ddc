-- Variables that are gathered from patterns, and the named ones of them, one after the other.
use Rattle.std.proofs.Common.{◌≡◌, ℕ, suc, ◌+◌, ◌-◌, ◌<◌, ◌≤◌, ◌==◌, ◌||◌, List, [], ◌∷◌, ◌++◌, Bool, true, false, if◌then◌else◌, refl, sym, ap, subst, ◌∙◌, append_assoc, append-nil, arith, nat_eq}
use Rattle.std.specs.List.{list_any}
use Rattle.std.proofs.lemmas.Bool.Decides.{Decides-eqb}
use Rattle.std.proofs.lemmas.List.Folds.{list_any-append}
use Rattle.rows_core.specs.declared.pattern.Spot.{Spot}
use Rattle.rows_core.specs.declared.pattern.Spot.TheVariants as spots
use Rattle.rows_core.specs.declared.pattern.TriplePattern.{TriplePattern}
use Rattle.indexmap.specs.IndexSet.{insert_key}
use Rattle.algebra_translation.specs.Views.{with_spot, with_pattern, with_patterns, variables_in, with_member}
use Rattle.algebra_translation.specs.Translation.{is_variable, has_variable, stands_in, with_in_scope, in_scope_from, with_once}

-- ---- the set of variables

eq_turned : (v w : ℕ) → nat_eq v w ≡ (w == v)
eq_turned v w = grind arith

-- the test of the set, and that of the definitions
pub any_turned : (v : ℕ) (xs : List ℕ) → list_any (nat_eq v) xs ≡ list_any (λ w. w == v) xs
any_turned v [] = refl
any_turned v (x ∷ xs) = ap (λ (b : Bool). b || list_any (nat_eq v) xs) (eq_turned v x) ∙ ap (λ (b : Bool). (x == v) || b) (any_turned v xs)

pub inserted : (v : ℕ) (xs : List ℕ) → insert_key nat_eq xs v ≡ with_once xs v
inserted v xs = ap (λ (b : Bool). if b then xs else xs ++ v ∷ []) (any_turned v xs)

-- ---- what is among the variables of patterns

or_none : (a : Bool) → a || false ≡ a
or_none true = refl
or_none false = refl

or_assoc : (a b c : Bool) → (a || b) || c ≡ a || (b || c)
or_assoc true b c = refl
or_assoc false b c = refl

eq_one : (v w : ℕ) → (w == v) ≡ true → w ≡ v
eq_one v w e = (Decides-eqb w v).0 e

-- a variable that is there already adds none
there_by : (v w : ℕ) (xs : List ℕ) (b : Bool) → (w == v) ≡ b → list_any (λ x. x == w) xs ≡ true → list_any (λ x. x == v) xs ≡ (list_any (λ x. x == v) xs || b)
there_by v w xs true e h =
    let t : list_any (λ (x : ℕ). x == v) xs ≡ true = subst (λ (k : ℕ). list_any (λ (x : ℕ). x == k) xs ≡ true) (eq_one v w e) h in
    t ∙ sym (ap (λ (c : Bool). c || true) t)
there_by v w xs false e h = sym (or_none (list_any (λ x. x == v) xs))

once_by : (v w : ℕ) (xs : List ℕ) (b : Bool) → list_any (λ x. x == w) xs ≡ b
    → list_any (λ x. x == v) (if b then xs else xs ++ w ∷ []) ≡ (list_any (λ x. x == v) xs || (w == v))
once_by v w xs true e = there_by v w xs (w == v) refl e
once_by v w xs false e = list_any-append (λ (x : ℕ). x == v) xs (w ∷ []) ∙ ap (λ (b : Bool). list_any (λ (x : ℕ). x == v) xs || b) (or_none (w == v))

once_has : (v w : ℕ) (xs : List ℕ) → list_any (λ x. x == v) (with_once xs w) ≡ (list_any (λ x. x == v) xs || (w == v))
once_has v w xs = once_by v w xs (list_any (λ x. x == w) xs) refl

spot_has : (v : ℕ) (xs : List ℕ) (s : Spot) → list_any (λ x. x == v) (with_spot xs s) ≡ (list_any (λ x. x == v) xs || is_variable v s)
spot_has v xs (spots.Term t) = sym (or_none (list_any (λ x. x == v) xs))
spot_has v xs (spots.Var w) = once_has v w xs

pattern_has : (v : ℕ) (xs : List ℕ) (p : TriplePattern) → list_any (λ x. x == v) (with_pattern xs p) ≡ (list_any (λ x. x == v) xs || has_variable v p)
pattern_has v xs p =
    let first = spot_has v xs p.s in
    let second = spot_has v (with_spot xs p.s) p.p ∙ ap (λ (b : Bool). b || is_variable v p.p) first in
    let third = spot_has v (with_spot (with_spot xs p.s) p.p) p.o ∙ ap (λ (b : Bool). b || is_variable v p.o) second in
    let a = list_any (λ (x : ℕ). x == v) xs in
    third ∙ (or_assoc (a || is_variable v p.s) (is_variable v p.p) (is_variable v p.o) ∙ or_assoc a (is_variable v p.s) (is_variable v p.p || is_variable v p.o))

all_have : (v : ℕ) (xs : List ℕ) (ps : List TriplePattern) → list_any (λ x. x == v) (with_patterns xs ps) ≡ (list_any (λ x. x == v) xs || stands_in v ps)
all_have v xs [] = sym (or_none (list_any (λ x. x == v) xs))
all_have v xs (p ∷ ps) =
    all_have v (with_pattern xs p) ps ∙ (ap (λ (b : Bool). b || stands_in v ps) (pattern_has v xs p) ∙ or_assoc (list_any (λ (x : ℕ). x == v) xs) (has_variable v p) (stands_in v ps))

-- among the variables of the patterns are those that stand in one of them
pub member_stands : (all : List ℕ) (v : ℕ) (ps : List TriplePattern) → with_member all v (variables_in ps) ≡ with_in_scope all v ps
member_stands all v ps = ap (λ (b : Bool). if b then all ++ v ∷ [] else all) (all_have v [] ps)

-- ---- the named variables, one after the other

star_by : (b : Bool) (n v : ℕ) (all new total : List ℕ) (ps : List TriplePattern) → stands_in v ps ≡ b → new ≡ (if b then all ++ v ∷ [] else all)
    → all ++ in_scope_from v (suc n) ps ≡ total → new ++ in_scope_from (v + 1) n ps ≡ total
star_by true n v all new total ps e m h =
    let x = in_scope_from (v + 1) n ps in
    ap (λ (l : List ℕ). l ++ x) m ∙ (append_assoc all (v ∷ []) x ∙ (ap (λ (t : Bool). all ++ (if t then v ∷ x else x)) (sym e) ∙ h))
star_by false n v all new total ps e m h =
    let x = in_scope_from (v + 1) n ps in
    ap (λ (l : List ℕ). l ++ x) m ∙ (ap (λ (t : Bool). all ++ (if t then v ∷ x else x)) (sym e) ∙ h)

-- one more of the named variables
pub star_more : (v names : ℕ) (all new total some : List ℕ) (ps : List TriplePattern) → v < names → some ≡ variables_in ps → new ≡ with_member all v some
    → all ++ in_scope_from v (names - v) ps ≡ total → new ++ in_scope_from (v + 1) (names - (v + 1)) ps ≡ total
star_more v names all new total some ps lt e m h =
    let n : names - v ≡ suc (names - (v + 1)) = omega arith in
    star_by (stands_in v ps) (names - (v + 1)) v all new total ps refl (m ∙ (ap (with_member all v) e ∙ member_stands all v ps)) (subst (λ (k : ℕ). all ++ in_scope_from v k ps ≡ total) n h)

pub star_end : (v names : ℕ) (all total : List ℕ) (ps : List TriplePattern) → names ≤ v → all ++ in_scope_from v (names - v) ps ≡ total → all ≡ total
star_end v names all total ps le h =
    let n : names - v ≡ 0 = omega arith in
    sym (append-nil all) ∙ subst (λ (k : ℕ). all ++ in_scope_from v k ps ≡ total) n h

-- Sorted by their links, the entries of a generated site are a site; and there is one such.
use Rattle.std.proofs.Common.{◌≡◌, ℕ, suc, ◌<◌, ◌≤◌, true, false, List, [], ◌∷◌, length, get_or, All, Option, Some, None, refl, sym, ap, ◌∙◌, subst, inl, inr, arith, add-one}
use Rattle.std.specs.Prelude.{◌&&◌, bytes_eq}
use Rattle.std.specs.List.{IsDistinct}
use Rattle.std.specs.List.Sorted.{IsPermutation, IsSorted}
use Rattle.std.specs.Cmp.Lexicographic.{slice_cmp, nat_list_cmp_total, nat_list_eq_equiv}
use Rattle.std.specs.Ordering.{nat_cmp, is_lt, is_eq, ordering_reverse}
use Rattle.std.specs.declared.cmp.Ordering.{Ordering}
use Rattle.std.specs.declared.cmp.Ordering.TheVariants.{Less, Equal, Greater}
use Rattle.std.proofs.lemmas.Bool.{and_parts, and_from}
use Rattle.std.proofs.lemmas.List.Elements.{All-nil, All-cons, All-head, All-tail}
use Rattle.std.proofs.lemmas.List.Sorted.{All-permutation, IsPermutation-sym, IsPermutation-trans, length_permutation}
use Rattle.std.proofs.lemmas.Map.Keys.{IsDistinct-IsPermutation, apart_from_distinct}
use Rattle.std.proofs.lemmas.Map.Text.{is_eq-slice_cmp}
use Rattle.rdf_terms.specs.Lists.{IsIn}
use Rattle.site_core.specs.Fields.{is_site_link}
use Rattle.site_core.specs.Generated.{IsGenerated, documents, link_cmp, vocabulary}
use Rattle.site_core.specs.Text.{Entry, comes_after, is_reply, is_site_from, site_limit, site_text}
use Rattle.site_core.proofs.GeneratedLinks.{distinct_entries, has_link_of}
use Rattle.site_core.proofs.GeneratedSizes.{Fits, entries_count, entries_fit, site_few}

-- ---- entries in strict order are a site

rises : (o : Ordering) → is_lt o ≡ false → is_eq o ≡ false → is_lt (ordering_reverse o) ≡ true
rises Less below apart = absurd cc
rises Equal below apart = absurd cc
rises Greater below apart = refl

-- of two links that stand next to each other the first is below the second
next_rises : (es : List Entry) → IsSorted link_cmp es → IsDistinct has_link_of es → (k : ℕ) (d : Entry) → suc k < length es → is_lt (slice_cmp nat_cmp (get_or es k d).0 (get_or es (suc k) d).0) ≡ true
next_rises es sorted distinct k d within =
    let P : ℕ → Type 0 = λ m. is_lt (slice_cmp nat_cmp (get_or es m d).0 (get_or es k d).0) ≡ false in
    let a = (get_or es k d).0 in
    let b = (get_or es (suc k) d).0 in
    let below : is_lt (slice_cmp nat_cmp b a) ≡ false = subst P (add-one k) (sorted k d (omega arith) (omega arith)) in
    let apart : bytes_eq a b ≡ false = apart_from_distinct has_link_of es k (suc k) d distinct (omega arith) within in
    let other : is_eq (slice_cmp nat_cmp b a) ≡ false = is_eq-slice_cmp b a ∙ nat_list_eq_equiv.symm b a ∙ apart in
    ap is_lt (nat_list_cmp_total.antisymm a b) ∙ rises (slice_cmp nat_cmp b a) below other

strict_site : (before : Option (List ℕ)) (es : List Entry) → ((d : Entry) → 0 < length es → comes_after before (get_or es 0 d).0 ≡ true)
    → ((k : ℕ) (d : Entry) → suc k < length es → is_lt (slice_cmp nat_cmp (get_or es k d).0 (get_or es (suc k) d).0) ≡ true) → All Fits es → is_site_from before es ≡ true
strict_site before [] first next fit = refl
strict_site before (e ∷ es) first next fit =
    let fits = All-head Fits e es fit in
    let here = and_from (comes_after before e.0) (is_site_link e.0 && is_reply e.1) (first e (omega arith)) (and_from (is_site_link e.0) (is_reply e.1) fits.link fits.reply) in
    and_from (comes_after before e.0 && (is_site_link e.0 && is_reply e.1)) (is_site_from (Some e.0) es) here
    (strict_site (Some e.0) es (λ d some. next 0 d (omega arith)) (λ k d within. next (suc k) d (omega arith)) (All-tail Fits e es fit))

module _ (n step : ℕ) (some : 1 ≤ n) (few : n ≤ 2000) (es : List Entry) (same : IsPermutation (vocabulary ∷ documents n step n) es) where
  all_fit : All Fits es
  all_fit = All-permutation Fits (vocabulary ∷ documents n step n) es same (entries_fit n step some few)

  pub sorted_site : IsSorted link_cmp es → is_site_from None es ≡ true
  sorted_site sorted =
      let distinct = IsDistinct-IsPermutation has_link_of (λ x y. nat_list_eq_equiv.symm x.0 y.0) (vocabulary ∷ documents n step n) es same (distinct_entries n step n (omega arith)) in
      strict_site None es (λ d some. refl) (next_rises es sorted distinct) all_fit

  pub within_limit : length (site_text es) ≤ site_limit
  within_limit = site_few es all_fit (let count = length_permutation (vocabulary ∷ documents n step n) es same in let known = entries_count n step in omega arith)

-- ---- one site

less_from : (o : Ordering) → is_lt o ≡ true → o ≡ Less
less_from Less h = refl
less_from Equal h = absurd cc
less_from Greater h = absurd cc

-- each link comes after those before it
later : (before : List ℕ) (es : List Entry) → is_site_from (Some before) es ≡ true → (e : Entry) → IsIn es e → slice_cmp nat_cmp before e.0 ≡ Less
later before [] site e inside = absurd inside
later before (x ∷ es) site e inside =
    let parts = and_parts (comes_after (Some before) x.0 && (is_site_link x.0 && is_reply x.1)) (is_site_from (Some x.0) es) site in
    let first = less_from (slice_cmp nat_cmp before x.0) (and_parts (comes_after (Some before) x.0) (is_site_link x.0 && is_reply x.1) parts.0).0 in
    elim inside [
      | inl same ↦ subst (λ (y : Entry). slice_cmp nat_cmp before y.0 ≡ Less) same first
      | inr more ↦ nat_list_cmp_total.trans before x.0 e.0 first (later x.0 es parts.1 e more)
    ]

rest_of : (before : Option (List ℕ)) (x : Entry) (es : List Entry) → is_site_from before (x ∷ es) ≡ true → is_site_from (Some x.0) es ≡ true
rest_of before x es site = (and_parts (comes_after before x.0 && (is_site_link x.0 && is_reply x.1)) (is_site_from (Some x.0) es) site).1

never_turned : (x y : List ℕ) → slice_cmp nat_cmp x y ≡ Less → slice_cmp nat_cmp y x ≡ Less → ⊥
never_turned x y below above = let turned : Less ≡ Greater = sym below ∙ nat_list_cmp_total.antisymm x y ∙ ap ordering_reverse above in cc

abbrev Within : List Entry → List Entry → Type 0
Within a b = (e : Entry) → IsIn a e → IsIn b e

one_list : (before other : Option (List ℕ)) (a b : List Entry) → is_site_from before a ≡ true → is_site_from other b ≡ true → Within a b → Within b a → a ≡ b
one_list before other [] [] site_a site_b to from = refl
one_list before other [] (y ∷ b) site_a site_b to from = absurd (from y (inl refl))
one_list before other (x ∷ a) [] site_a site_b to from = absurd (to x (inl refl))
one_list before other (x ∷ a) (y ∷ b) site_a site_b to from =
    let rest_a = rest_of before x a site_a in
    let rest_b = rest_of other y b site_b in
    let same : x ≡ y =
    elim (to x (inl refl)) [
      | inl e ↦ sym e
      | inr in_b ↦ elim (from y (inl refl)) [
        | inl e ↦ e
        | inr in_a ↦ absurd (never_turned x.0 y.0 (later x.0 a rest_a y in_a) (later y.0 b rest_b x in_b))
      ]
    ] in
    let tail : a ≡ b = one_list (Some x.0) (Some y.0) a b rest_a rest_b
    (λ e inside. elim (to e (inr inside)) [
      | inl is ↦ absurd (never_self x.0 (ap (λ (z : Entry). slice_cmp nat_cmp x.0 z.0) (same ∙ is) ∙ later x.0 a rest_a e inside))
      | inr found ↦ found
    ])
    (λ e inside. elim (from e (inr inside)) [
      | inl is ↦ absurd (never_self y.0 (ap (λ (z : Entry). slice_cmp nat_cmp y.0 z.0) (sym same ∙ is) ∙ later y.0 b rest_b e inside))
      | inr found ↦ found
    ]) in
    λ i. same i ∷ tail i
  where
    never_self : (x : List ℕ) → slice_cmp nat_cmp x x ≡ Less → ⊥
    never_self x below = never_turned x x below below

each_in : (es more : List Entry) → Within es more → All (IsIn more) es
each_in [] more to = All-nil (IsIn more)
each_in (x ∷ es) more to = All-cons (IsIn more) x es (to x (inl refl)) (each_in es more (λ e inside. to e (inr inside)))

from_each : (es more : List Entry) → All (IsIn more) es → Within es more
from_each [] more all e inside = absurd inside
from_each (x ∷ es) more all e (inl same) = subst (IsIn more) same (All-head (IsIn more) x es all)
from_each (x ∷ es) more all e (inr later) = from_each es more (All-tail (IsIn more) x es all) e later

permuted_within : (a b : List Entry) → IsPermutation a b → Within b a
permuted_within a b same = from_each b a (All-permutation (IsIn a) a b same (each_in a a (λ e inside. inside)))

pub one_generated : (n step : ℕ) (a b : List Entry) → IsGenerated n step a → IsGenerated n step b → a ≡ b
one_generated n step a b is_a is_b =
    let all = vocabulary ∷ documents n step n in
    let same = IsPermutation-trans a all b (IsPermutation-sym all a is_a.same) is_b.same in
    one_list None None a b is_a.site is_b.site (permuted_within b a (IsPermutation-sym a b same)) (permuted_within a b same)

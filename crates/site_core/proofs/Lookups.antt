-- Looking a link up in a site's entries.
use Rattle.std.proofs.Common.{◌≡◌, ℕ, ◌+◌, ◌<◌, suc, zero, List, [], ◌∷◌, length, get_or, true, false, ◌&&◌, Option, Some, None, refl, sym, ap, ◌∙◌, subst, arith, inl, inr}
use Rattle.std.specs.Prelude.{bytes_eq}
use Rattle.std.specs.Map.{lookup}
use Rattle.std.specs.Cmp.Lexicographic.{slice_cmp, nat_list_cmp_total}
use Rattle.std.specs.Cmp.{Equal-is}
use Rattle.std.specs.List.Sorted.{IsNonDecreasingBy, IsPartitionPoint, IsSortedBy}
use Rattle.std.specs.Ordering.{nat_cmp, is_lt, is_eq, ordering_index, ordering_reverse}
use Rattle.std.specs.declared.cmp.Ordering.{Ordering}
use Rattle.std.specs.declared.cmp.Ordering.TheVariants.{Less, Equal, Greater}
use Rattle.std.proofs.lemmas.Bool.{and_parts, cases_Bool, cases_lt, cond-true, cond-false}
use Rattle.std.proofs.lemmas.Cmp.{alike_right, tied_back}
use Rattle.std.proofs.lemmas.List.Sorted.{searchable_from_sorted}
use Rattle.std.proofs.lemmas.Map.Text.{is_eq-slice_cmp}
use Rattle.site_core.specs.Text.{Entry, comes_after, is_reply, is_site_from}
use Rattle.site_core.specs.Fields.{is_site_link}

less_is : (o : Ordering) → is_lt o ≡ true → o ≡ Less
less_is Less h = refl
less_is Equal h = absurd cc
less_is Greater h = absurd cc

-- each link comes after those before it
later_link : (before : List ℕ) (es : List Entry) → is_site_from (Some before) es ≡ true → (k : ℕ) (d : Entry) → k < length es → slice_cmp nat_cmp before (get_or es k d).0 ≡ Less
later_link before [] site k d within = absurd (omega arith)
later_link before (e ∷ es) site zero d within =
    let parts = and_parts (comes_after (Some before) e.0 && (is_site_link e.0 && is_reply e.1)) (is_site_from (Some e.0) es) site in
    less_is (slice_cmp nat_cmp before e.0) (and_parts (comes_after (Some before) e.0) (is_site_link e.0 && is_reply e.1) parts.0).0
later_link before (e ∷ es) site (suc k) d within =
    let parts = and_parts (comes_after (Some before) e.0 && (is_site_link e.0 && is_reply e.1)) (is_site_from (Some e.0) es) site in
    let first = less_is (slice_cmp nat_cmp before e.0) (and_parts (comes_after (Some before) e.0) (is_site_link e.0 && is_reply e.1) parts.0).0 in
    nat_list_cmp_total.trans before e.0 (get_or es k d).0 first (later_link e.0 es parts.1 k d (omega arith))

-- the entry of a link that is found
pub found_link : (before : Option (List ℕ)) (es : List Entry) (link : List ℕ) → is_site_from before es ≡ true → (i : ℕ) (d : Entry) → i < length es → slice_cmp nat_cmp (get_or es i d).0 link ≡ Equal → lookup (bytes_eq link) es ≡ Some (get_or es i d).1
found_link before [] link site i d within same = absurd (omega arith)
found_link before (e ∷ es) link site zero d within same =
    let here : bytes_eq link e.0 ≡ true = sym (is_eq-slice_cmp link e.0) ∙ ap is_eq (tied_back nat_list_cmp_total e.0 link same) in
    cond-true (bytes_eq link e.0) (Some e.1) (lookup (bytes_eq link) es) here
found_link before (e ∷ es) link site (suc i) d within same =
    let parts = and_parts (comes_after before e.0 && (is_site_link e.0 && is_reply e.1)) (is_site_from (Some e.0) es) site in
    let later = (get_or es i d).0 in
    let below : slice_cmp nat_cmp e.0 link ≡ Less = sym (alike_right nat_list_cmp_total later link e.0 same) ∙ later_link e.0 es parts.1 i d (omega arith) in
    let other : bytes_eq link e.0 ≡ false = sym (is_eq-slice_cmp link e.0) ∙ ap is_eq (nat_list_cmp_total.antisymm link e.0 ∙ ap ordering_reverse below) in
    cond-false (bytes_eq link e.0) (Some e.1) (lookup (bytes_eq link) es) other ∙ found_link (Some e.0) es link parts.1 i d (omega arith) same

none_found : (es : List Entry) (link : List ℕ) → ((k : ℕ) (d : Entry) → k < length es → slice_cmp nat_cmp (get_or es k d).0 link ≡ Equal → ⊥) → lookup (bytes_eq link) es ≡ None
none_found [] link apart = refl
none_found (e ∷ es) link apart =
    let other : bytes_eq link e.0 ≡ false =
    elim (cases_Bool (bytes_eq link e.0)) [
      | inl same ↦ absurd (apart 0 e (omega arith) (tied_back nat_list_cmp_total link e.0 ((Equal-is (slice_cmp nat_cmp link e.0)).0 (is_eq-slice_cmp link e.0 ∙ same))))
      | inr differs ↦ differs
    ] in
    cond-false (bytes_eq link e.0) (Some e.1) (lookup (bytes_eq link) es) other
    ∙ none_found es link (λ k d within same. apart (suc k) d (omega arith) same)

rising : (before : Option (List ℕ)) (es : List Entry) → is_site_from before es ≡ true → (k : ℕ) (d : Entry) → suc k < length es → is_lt (slice_cmp nat_cmp (get_or es (suc k) d).0 (get_or es k d).0) ≡ false
rising before [] site k d within = absurd (omega arith)
rising before (e ∷ es) site zero d within =
    let parts = and_parts (comes_after before e.0 && (is_site_link e.0 && is_reply e.1)) (is_site_from (Some e.0) es) site in
    let next = (get_or es 0 d).0 in
    ap is_lt (nat_list_cmp_total.antisymm next e.0 ∙ ap ordering_reverse (later_link e.0 es parts.1 0 d (omega arith)))
rising before (e ∷ es) site (suc k) d within =
    let parts = and_parts (comes_after before e.0 && (is_site_link e.0 && is_reply e.1)) (is_site_from (Some e.0) es) site in
    rising (Some e.0) es parts.1 k d (omega arith)

sorted : (before : Option (List ℕ)) (es : List Entry) → is_site_from before es ≡ true → IsSortedBy (λ (a b : Entry). is_lt (slice_cmp nat_cmp a.0 b.0)) es
sorted before es site k d low high =
    let next : k + 1 ≡ suc k = omega arith in
    let P : ℕ → Type 0 = λ n. is_lt (slice_cmp nat_cmp (get_or es n d).0 (get_or es k d).0) ≡ false in
    subst P (sym next) (rising before es site k d (omega arith))

-- a link that a binary search doesn't find has no entry
pub missing_link : (before : Option (List ℕ)) (es : List Entry) (link : List ℕ) (i : ℕ) → is_site_from before es ≡ true
    → (IsNonDecreasingBy (λ (e : Entry). ordering_index (slice_cmp nat_cmp e.0 link)) es → IsPartitionPoint (λ (e : Entry). slice_cmp nat_cmp e.0 link ≡ Less) (λ (e : Entry). slice_cmp nat_cmp e.0 link ≡ Greater) es i)
    → lookup (bytes_eq link) es ≡ None
missing_link before es link i site search_says =
    let parted = search_says (searchable_from_sorted nat_list_cmp_total (λ (e : Entry). e.0) es link (sorted before es site)) in
    none_found es link (λ k d within same.
    elim (cases_lt k i) [
      | inl below ↦ (let less = parted.0 k d (omega arith) below in cc)
      | inr above ↦ (let greater = parted.1 k d above within in cc)
    ])

-- ---- as the code has the entries

pub found_in : (entries seen all : List Entry) (link : List ℕ) (place : ℕ) (value : Entry) → seen ≡ entries → entries ≡ all → is_site_from None entries ≡ true → place < length seen
    → ((d : Entry) → slice_cmp nat_cmp (get_or seen place d).0 link ≡ Equal) → value ≡ get_or entries place value → Some value.1 ≡ lookup (bytes_eq link) all
found_in entries seen all link place value is_seen is_all site within holds at =
    let P : List Entry → Type 0 = λ es. Some value.1 ≡ lookup (bytes_eq link) es in
    let Q : List Entry → Type 0 = λ es. slice_cmp nat_cmp (get_or es place value).0 link ≡ Equal in
    let inside : place < length entries = (let e = ap length is_seen in omega arith) in
    subst P is_all (ap (λ (e : Entry). Some e.1) at ∙ sym (found_link None entries link site place value inside (subst Q is_seen (holds value))))

pub missing_in : (entries seen all : List Entry) (link : List ℕ) (i : ℕ) → seen ≡ entries → entries ≡ all → is_site_from None entries ≡ true
    → (IsNonDecreasingBy (λ (e : Entry). ordering_index (slice_cmp nat_cmp e.0 link)) seen → IsPartitionPoint (λ (e : Entry). slice_cmp nat_cmp e.0 link ≡ Less) (λ (e : Entry). slice_cmp nat_cmp e.0 link ≡ Greater) seen i)
    → None ≡ lookup (bytes_eq link) all
missing_in entries seen all link i is_seen is_all site says =
    let P : List Entry → Type 0 = λ es. None ≡ lookup (bytes_eq link) es in
    let Q : List Entry → Type 0 = λ es. IsNonDecreasingBy (λ (e : Entry). ordering_index (slice_cmp nat_cmp e.0 link)) es → IsPartitionPoint (λ (e : Entry). slice_cmp nat_cmp e.0 link ≡ Less) (λ (e : Entry). slice_cmp nat_cmp e.0 link ≡ Greater) es i in
    subst P is_all (sym (missing_link None entries link i site (subst Q is_seen says)))

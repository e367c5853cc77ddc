-- Parts of lists, of paths, of domains and of ports, and how each goes on.
use Rattle.std.proofs.Common.{◌≡◌, ℕ, zero, suc, ◌+◌, ◌/◌, ◌%◌, ◌^◌, ◌<◌, ◌≤◌, Bool, true, false, cond, List, [], ◌∷◌, ◌++◌, length, drop, All, Option, Some, None, decimal, refl, sym, ap, ◌∙◌, subst, inl, inr, arith, lit<, lit≤, append-nil, append_assoc, length-append}
use Rattle.std.specs.Prelude.{◌&&◌, ◌||◌, ◌==◌, ◌⊎◌, slice_index}
use Rattle.std.specs.List.{list_all}
use Rattle.std.specs.Char.{is_digit, is_ascii_digit, to_ascii_lowercase}
use Rattle.std.proofs.lemmas.Bool.{cases_lt, cond_both, cond-false}
use Rattle.std.proofs.lemmas.Bool.Decides.{nat_tests}
use Rattle.std.proofs.lemmas.Fmt.{decimal_digit, decimal_step}
use Rattle.std.proofs.lemmas.List.Folds.{list_all-append}
use Rattle.std.proofs.lemmas.List.Elements.{All-nil, All-cons, All-head, All-tail, All-push}
use Rattle.percent_encoding.specs.Percent.{IsKept}
use Rattle.percent_encoding.proofs.AsciiSetLemmas.{kept_from_outside}
use Rattle.url.specs.declared.scheme.SchemeType.TheVariants.{SpecialNotFile}
use Rattle.url.specs.declared.sets.TheConstants.{PATH, FORBIDDEN_DOMAIN, SPECIAL_QUERY}
use Rattle.url.specs.Input.{is_empty, lowercase, rsplit_once, rsplit_step}
use Rattle.url.specs.Ipv4.{ends_in_a_number, is_number, last_label, last_label_of, number_of, parse_number, split_radix}
use Rattle.url.specs.Host.{IsDomain}
use Rattle.url.specs.Path.{dot_count, dot_len, join_segments, IsSegment, IsSegmentList}
use Rattle.url.proofs.PathLemmas.{IsNoSlash}

-- ---- lists

-- where the first part of a list ends, against another division of it
pub division : (u more a b : List ℕ) → u ++ more ≡ a ++ b → ((c : List ℕ) × (u ≡ a ++ c) × (c ++ more ≡ b)) ⊎ ((c : List ℕ) × (a ≡ u ++ c) × (0 < length c))
division [] more [] b e = inl ([], refl, e)
division [] more (x ∷ a) b e = inr (x ∷ a, refl, omega arith)
division (x ∷ u) more [] b e = inl (x ∷ u, refl, e)
division (x ∷ u) more (y ∷ a) b e =
    let head : x ≡ y = cc in
    let tail : u ++ more ≡ a ++ b = cc in
    elim (division u more a b tail) [
      | inl h ↦ inl (h.0, (λ i. head i ∷ h.1 i), h.2)
      | inr h ↦ inr (h.0, (λ i. sym head i ∷ h.1 i), h.2)
    ]

-- without its last element
pub unsnoc : (d c xs : List ℕ) (y : ℕ) → d ++ c ≡ xs ++ y ∷ [] → (c ≡ []) ⊎ ((e : List ℕ) × (d ++ e ≡ xs))
unsnoc d c xs y e =
    elim (division d c xs (y ∷ []) e) [
      | inl h ↦ by h.0 h.1 h.2
      | inr h ↦ inr (h.0, sym h.1)
    ]
  where
    by : (r : List ℕ) → d ≡ xs ++ r → r ++ c ≡ y ∷ [] → (c ≡ []) ⊎ ((e : List ℕ) × (d ++ e ≡ xs))
    by [] is rest = inr ([], append-nil d ∙ is ∙ append-nil xs)
    by (x ∷ r) is rest = inl (none r c (let tail : r ++ c ≡ [] = cc in tail))
      where
        none : (r c : List ℕ) → r ++ c ≡ [] → c ≡ []
        none [] c e = e
        none (x ∷ r) c e = absurd cc

pub All-front : (P : ℕ → Type 0) (xs ys : List ℕ) → All P (xs ++ ys) → All P xs
All-front P [] ys all = All-nil P
All-front P (x ∷ xs) ys all = All-cons P x xs (All-head P x (xs ++ ys) all) (All-front P xs ys (All-tail P x (xs ++ ys) all))

-- ---- a segment that goes on with `~`

abbrev pub tilde : List ℕ
tilde = 126 ∷ []

short_dots : (xs : List ℕ) → dot_len xs ≤ 3
short_dots xs =
    cond_both (slice_index xs 0 == 46) 1 _ (λ n. n ≤ 3) (λ _. lit≤ tt) (λ _. cond_both _ 3 0 (λ n. n ≤ 3) (λ _. lit≤ tt) (λ _. lit≤ tt))

not_dots : (xs : List ℕ) → (dot_len (xs ++ tilde) == length (xs ++ tilde)) ≡ false
not_dots [] = refl
not_dots (a ∷ []) = grind (arith, nat_tests)
not_dots (a ∷ b ∷ []) = grind (arith, nat_tests)
not_dots (a ∷ b ∷ c ∷ xs) = let short = short_dots (a ∷ b ∷ c ∷ (xs ++ tilde)) in let long = length-append xs tilde in grind (arith, nat_tests)

abbrev escape_len : Bool → ℕ
escape_len b = cond {A = ℕ} b 3 0

tilde_rest : (xs : List ℕ) → ((dot_len (xs ++ tilde) == 0) ≡ true) ⊎ ((ys : List ℕ) × (drop (dot_len (xs ++ tilde)) (xs ++ tilde) ≡ ys ++ tilde))
tilde_rest [] = inl refl
tilde_rest (a ∷ xs) =
    cond_both (a == 46) 1 (escape_len _) (λ n. ((n == 0) ≡ true) ⊎ ((ys : List ℕ) × (drop n ((a ∷ xs) ++ tilde) ≡ ys ++ tilde)))
    (λ _. inr (xs, refl))
    (λ _. by xs)
  where
    by : (xs : List ℕ) → let n = escape_len (a == 37 && (slice_index ((a ∷ xs) ++ tilde) 1 == 50) && ((slice_index ((a ∷ xs) ++ tilde) 2 == 101) || (slice_index ((a ∷ xs) ++ tilde) 2 == 69))) in ((n == 0) ≡ true) ⊎ ((ys : List ℕ) × (drop n ((a ∷ xs) ++ tilde) ≡ ys ++ tilde))
    by [] = inl (grind (arith, nat_tests))
    by (b ∷ []) = inl (grind (arith, nat_tests))
    by (b ∷ c ∷ xs) = cond_both _ 3 0 (λ n. ((n == 0) ≡ true) ⊎ ((ys : List ℕ) × (drop n ((a ∷ b ∷ c ∷ xs) ++ tilde) ≡ ys ++ tilde))) (λ _. inr (xs, refl)) (λ _. inl refl)

some_tilde : (xs : List ℕ) → is_empty (xs ++ tilde) ≡ false
some_tilde [] = refl
some_tilde (x ∷ xs) = grind (arith, nat_tests)

no_dots : (xs : List ℕ) → dot_count (xs ++ tilde) ≡ 0
unfolding dot_count
no_dots xs =
    elim (tilde_rest xs) [
      | inl none ↦ rw none refl
      | inr some ↦ rw (some.1, some_tilde some.0, not_dots some.0) (by (dot_len (xs ++ tilde) == 0))
    ]
  where
    by : (b : Bool) → cond {A = ℕ} b 0 0 ≡ 0
    by true = refl
    by false = refl

segment_on : (a b : List ℕ) → IsSegment SpecialNotFile (a ++ b) → IsSegment SpecialNotFile (a ++ tilde)
segment_on a b segment = record {
  escaped = All-push (IsKept PATH) a 126 (All-front (IsKept PATH) a b segment.escaped) (kept_from_outside PATH 126 (lit< tt) refl);
  whole = All-push (IsNoSlash SpecialNotFile) a 126 (All-front (IsNoSlash SpecialNotFile) a b segment.whole) refl;
  resolved = no_dots a;
}

abbrev Joined : List ℕ → Type 0
Joined path = (segments : List (List ℕ)) × (path ≡ join_segments segments) × All (IsSegment SpecialNotFile) segments

segments_on : (segments : List (List ℕ)) (w c : List ℕ) → All (IsSegment SpecialNotFile) segments → w ++ c ≡ join_segments segments → 0 < length w → Joined (w ++ tilde)
segments_on [] [] c all e some = absurd (omega arith)
segments_on [] (x ∷ w) c all e some = absurd cc
segments_on (s ∷ segments) [] c all e some = absurd (omega arith)
segments_on (s ∷ segments) (x ∷ w) c all e some =
    let P = IsSegment SpecialNotFile in
    let head : x ≡ 47 = cc in
    let tail : w ++ c ≡ s ++ join_segments segments = cc in
    let first = All-head P s segments all in
    elim (division w c s (join_segments segments) tail) [
      | inl h ↦ behind h.0 h.1 h.2 head first (All-tail P s segments all) (λ d others rest some. segments_on segments d c others rest some)
      | inr h ↦ ((w ++ tilde) ∷ [], (λ i. head i ∷ sym (append-nil (w ++ tilde)) i), All-cons P (w ++ tilde) [] (segment_on w h.0 (subst P h.1 first)) (All-nil P))
    ]
  where
    behind : (d : List ℕ) → w ≡ s ++ d → d ++ c ≡ join_segments segments → x ≡ 47 → IsSegment SpecialNotFile s → All (IsSegment SpecialNotFile) segments → ((d : List ℕ) → All (IsSegment SpecialNotFile) segments → d ++ c ≡ join_segments segments → 0 < length d → Joined (d ++ tilde)) → Joined (x ∷ (w ++ tilde))
    behind [] is rest head first others on =
        let P = IsSegment SpecialNotFile in
        let same : w ≡ s = is ∙ append-nil s in
        ((w ++ tilde) ∷ [], (λ i. head i ∷ sym (append-nil (w ++ tilde)) i), All-cons P (w ++ tilde) [] (segment_on w [] (subst P (sym (append-nil w ∙ same)) first)) (All-nil P))
    behind (y ∷ d) is rest head first others on =
        let P = IsSegment SpecialNotFile in
        let later = on (y ∷ d) others rest (omega arith) in
        let text : w ++ tilde ≡ s ++ join_segments later.0 = ap (λ bs. bs ++ tilde) is ∙ append_assoc s (y ∷ d) tilde ∙ ap (λ bs. s ++ bs) later.1 in
        (s ∷ later.0, (λ i. head i ∷ text i), All-cons P s later.0 first later.2)

-- a part of a path, but for the empty one, goes on with `~`
pub path_on : (path w c : List ℕ) → IsSegmentList SpecialNotFile path → w ++ c ≡ path → 0 < length w → IsSegmentList SpecialNotFile (w ++ tilde)
path_on path w c list e some =
    let on = segments_on list.segments w c list.each (e ∙ list.joined) some in
    record { segments = on.0; joined = on.1; each = on.2 }

pub query_on : (query q c : List ℕ) → All (IsKept SPECIAL_QUERY) query → q ++ c ≡ query → All (IsKept SPECIAL_QUERY) (q ++ tilde)
query_on query q c kept e = All-push (IsKept SPECIAL_QUERY) q 126 (All-front (IsKept SPECIAL_QUERY) q c (subst (All (IsKept SPECIAL_QUERY)) (sym e) kept)) (kept_from_outside SPECIAL_QUERY 126 (lit< tt) refl)

-- ---- a domain that goes on with `~`

last_part : (xs : List ℕ) → (l : List ℕ) × ((rsplit_once 46 (xs ++ tilde)).1 ≡ l ++ tilde)
unfolding rsplit_once
last_part [] = ([], refl)
last_part (x ∷ xs) = let later = last_part xs in by (rsplit_once 46 (xs ++ tilde)).0 (rsplit_once 46 (xs ++ tilde)).1 later.0 later.1
  where
    by : (front : Option (List ℕ)) (back l : List ℕ) → back ≡ l ++ tilde → (l : List ℕ) × ((rsplit_step 46 x front back).1 ≡ l ++ tilde)
    by (Some front) back l is = (l, is)
    by None back l is = cond_both (x == 46) _ _ (λ (p : Option (List ℕ) × List ℕ). (l : List ℕ) × (p.1 ≡ l ++ tilde)) (λ _. (l, is)) (λ _. (x ∷ l, ap (λ bs. x ∷ bs) is))

last_on : (front : Option (List ℕ)) (l : List ℕ) → last_label_of front (l ++ tilde) ≡ l ++ tilde
last_on (Some front) l = cond-false _ _ _ (some_tilde l)
last_on None l = refl

label_on : (xs : List ℕ) → (l : List ℕ) × (last_label (xs ++ tilde) ≡ l ++ tilde)
label_on xs =
    let last = last_part xs in
    (last.0, ap (last_label_of (rsplit_once 46 (xs ++ tilde)).0) last.1 ∙ last_on (rsplit_once 46 (xs ++ tilde)).0 last.0)

no_all : (test : ℕ → Bool) (l : List ℕ) → test 126 ≡ false → list_all test (l ++ tilde) ≡ false
no_all test l none = list_all-append test l tilde ∙ by (list_all test l)
  where
    by : (b : Bool) → (b && (test 126 && true)) ≡ false
    by true = ap (λ x. x && true) none
    by false = refl

no_number_of : (radix : ℕ) (l : List ℕ) → is_digit 126 radix ≡ false → is_number (number_of radix (l ++ tilde)) ≡ false
no_number_of radix l none = ap is_number (cond-false _ _ _ (no_all (λ b. is_digit b radix) l none))

no_number : (l : List ℕ) → is_number (parse_number (l ++ tilde)) ≡ false
unfolding parse_number
no_number l = ap is_number (cond-false _ _ _ (some_tilde l)) ∙ by l
  where
    by : (l : List ℕ) → is_number (number_of (split_radix (l ++ tilde)).0 (split_radix (l ++ tilde)).1) ≡ false
    by [] = refl
    by (a ∷ []) =
        cond_both (a == 48 && false) _ _ (λ (p : ℕ × List ℕ). is_number (number_of p.0 p.1) ≡ false)
        (λ h. absurd (grind arith))
        (λ _. cond_both (a == 48) _ _ (λ (p : ℕ × List ℕ). is_number (number_of p.0 p.1) ≡ false) (λ _. no_number_of 8 [] refl) (λ _. no_number_of 10 (a ∷ []) refl))
    by (a ∷ b ∷ l) =
        cond_both (a == 48 && (b == 120 || b == 88)) _ _ (λ (p : ℕ × List ℕ). is_number (number_of p.0 p.1) ≡ false)
        (λ _. no_number_of 16 l refl)
        (λ _. cond_both (a == 48) _ _ (λ (p : ℕ × List ℕ). is_number (number_of p.0 p.1) ≡ false) (λ _. no_number_of 8 (b ∷ l) refl) (λ _. no_number_of 10 (a ∷ b ∷ l) refl))

unnumbered : (xs : List ℕ) → ends_in_a_number (xs ++ tilde) ≡ false
unfolding ends_in_a_number
unnumbered xs =
    let label = label_on xs in
    let whole = no_all is_ascii_digit label.0 refl in
    let number = no_number label.0 in
    rw (label.1, whole, number, some_tilde label.0) refl

lower_front : (xs ys : List ℕ) → lowercase (xs ++ ys) ≡ xs ++ ys → lowercase (xs ++ tilde) ≡ xs ++ tilde
lower_front [] ys e = refl
lower_front (x ∷ xs) ys e =
    let head : to_ascii_lowercase x ≡ x = cc in
    let tail : lowercase (xs ++ ys) ≡ xs ++ ys = cc in
    let later = lower_front xs ys tail in
    λ i. head i ∷ later i

-- a part of a domain goes on with `~`
pub domain_on : (u c : List ℕ) → All (IsKept FORBIDDEN_DOMAIN) (u ++ c) → lowercase (u ++ c) ≡ u ++ c → IsDomain (u ++ tilde) × (0 < length (u ++ tilde))
domain_on u c allowed lower = (
  record {
    allowed = All-push (IsKept FORBIDDEN_DOMAIN) u 126 (All-front (IsKept FORBIDDEN_DOMAIN) u c allowed) (kept_from_outside FORBIDDEN_DOMAIN 126 (lit< tt) refl);
    lower = lower_front u c lower;
    named = unnumbered u;
  },
  omega (arith, length-append u tilde),
)

-- ---- a number that goes on

abbrev IsPartOf : ℕ → List ℕ → Type 0
IsPartOf n d = (d ≡ []) ⊎ ((m : ℕ) × (m ≤ n) × (d ≡ decimal m))

whole_number : (n : ℕ) (d c : List ℕ) → d ++ c ≡ decimal n → c ≡ [] → IsPartOf n d
whole_number n d c e none = inr (n, omega arith, sym (append-nil d) ∙ ap (λ bs. d ++ bs) (sym none) ∙ e)

no_front : (d e : List ℕ) → d ++ e ≡ [] → d ≡ []
no_front [] e h = refl
no_front (x ∷ d) e h = absurd cc

digit_part : (n : ℕ) (d c : List ℕ) → n < 10 → d ++ c ≡ decimal n → IsPartOf n d
digit_part n d c small e =
    elim (unsnoc d c [] (48 + n) (e ∙ decimal_digit n small)) [
      | inl none ↦ whole_number n d c e none
      | inr h ↦ inl (no_front d h.0 h.1)
    ]

-- a part of a number, but for the empty one, is a number that is no greater
pub number_part : (k n : ℕ) (d c : List ℕ) → n ≤ k → n < 2 ^ 64 → d ++ c ≡ decimal n → IsPartOf n d
number_part zero n d c most small e = digit_part n d c (omega arith) e
number_part (suc k) n d c most small e =
    elim (cases_lt n 10) [
      | inl digit ↦ digit_part n d c digit e
      | inr more ↦
          elim (unsnoc d c (decimal (n / 10)) (48 + n % 10) (e ∙ decimal_step n (omega arith) small)) [
            | inl none ↦ whole_number n d c e none
            | inr h ↦
                elim (number_part k (n / 10) d h.0 (omega arith) (omega arith) h.1) [
                  | inl none ↦ inl none
                  | inr part ↦ inr (part.0, omega (arith, part.1), part.2)
                ]
          ]
    ]

-- The members of a list, one after the other.
use Rattle.std.proofs.Common.{◌≡◌, ℕ, zero, suc, ◌<◌, ◌≤◌, Bool, true, false, cond, List, [], ◌∷◌, ◌++◌, length, take, drop, refl, sym, ap, ◌∙◌, arith, append_assoc, append-nil, add-one, length-drop}
use Rattle.std.specs.Prelude.{Option, Some, None, option_map, ◌==◌, ◌&&◌}
use Rattle.std.specs.List.{slice_get}
use Rattle.std.proofs.lemmas.Bool.Decides.{nat_tests}
use Rattle.http_header.specs.FieldValue.{FieldValue}
use Rattle.http_message.specs.Lengths.{comma, trimmed, number_of, members_from, members, is_number, states, all_state, one_number, all_members, length_of, first_len, first_number}

-- the members after the first, where its end and what follows are left
rest_of : List ℕ → List (List ℕ)
rest_of [] = []
rest_of (b ∷ bs) = members bs

first_and_rest : (list acc : List ℕ) → members_from acc list ≡ (acc ++ take (first_len list) list) ∷ rest_of (drop (first_len list) list)
unfolding rest_of
first_and_rest [] acc = rw append-nil refl
first_and_rest (b ∷ bs) acc =
    elim (b == comma) as (λ t. (b == comma) ≡ t → members_from acc (b ∷ bs) ≡ (acc ++ take (first_len (b ∷ bs)) (b ∷ bs)) ∷ rest_of (drop (first_len (b ∷ bs)) (b ∷ bs))) [
      | true ↦ λ e. rw (e, append-nil) refl
      | false ↦ λ e. rw (e, add-one) (first_and_rest bs (acc ++ b ∷ []) ∙ ap (λ m. m ∷ rest_of (drop (first_len bs) bs)) (append_assoc acc (b ∷ []) (take (first_len bs) bs)))
    ] refl

-- the first member, and some others
members_first : (list : List ℕ) → (ms : List (List ℕ)) × (members list ≡ take (first_len list) list ∷ ms)
members_first list = (rest_of (drop (first_len list) list), first_and_rest list [])

rest_is : (xs : List ℕ) → 0 < length xs → rest_of xs ≡ members (drop 1 xs)
unfolding rest_of
rest_is [] some = absurd (omega arith)
rest_is (b ∷ bs) some = refl

some_left : (n : ℕ) (list : List ℕ) → n < length list → 0 < length (drop n list)
some_left n list less = omega (arith, length-drop n list)

none_left : (n : ℕ) (list : List ℕ) → length list ≤ n → (drop n list ≡ []) × (take n list ≡ list)
none_left zero [] less = (refl, refl)
none_left (suc n) [] less = (refl, refl)
none_left zero (b ∷ bs) less = absurd (omega arith)
none_left (suc n) (b ∷ bs) less = let later = none_left n bs (omega arith) in (later.0, ap (λ xs. b ∷ xs) later.1)

no_others : (xs : List ℕ) → xs ≡ [] → rest_of xs ≡ []
unfolding rest_of
no_others xs e = ap rest_of e

-- a comma parts the first member from the others
members_more : (list : List ℕ) (at : ℕ) → at ≡ first_len list → at < length list → members list ≡ take at list ∷ members (drop 1 (drop at list))
members_more list at is less =
    first_and_rest list [] ∙ ap (λ k. take k list ∷ rest_of (drop k list)) (sym is)
    ∙ ap (λ ms. take at list ∷ ms) (rest_is (drop at list) (some_left at list less))

-- without one the list is its only member
members_one : (list : List ℕ) (at : ℕ) → at ≡ first_len list → length list ≤ at → members list ≡ list ∷ []
members_one list at is less =
    let left = none_left at list less in
    first_and_rest list [] ∙ ap (λ k. take k list ∷ rest_of (drop k list)) (sym is)
    ∙ ap (λ ms. take at list ∷ ms) (no_others (drop at list) left.0) ∙ ap (λ m. m ∷ []) left.1

-- the first member decides where it is another number
pub more_false : (n : ℕ) (list : List ℕ) (at : ℕ) → at ≡ first_len list → at < length list → states n (take at list) ≡ false → all_state n (members list) ≡ false
more_false n list at is less e =
    ap (all_state n) (members_more list at is less) ∙ ap (λ t. t && all_state n (members (drop 1 (drop at list)))) e

-- else the others do
pub more_true : (n : ℕ) (list : List ℕ) (at : ℕ) → at ≡ first_len list → at < length list → states n (take at list) ≡ true
    → all_state n (members list) ≡ all_state n (members (drop 1 (drop at list)))
more_true n list at is less e =
    ap (all_state n) (members_more list at is less) ∙ ap (λ t. t && all_state n (members (drop 1 (drop at list)))) e

and_true : (t : Bool) → (t && true) ≡ t
and_true true = refl
and_true false = refl

pub one_left : (n : ℕ) (list : List ℕ) (at : ℕ) → at ≡ first_len list → length list ≤ at → all_state n (members list) ≡ states n list
one_left n list at is less = ap (all_state n) (members_one list at is less) ∙ and_true (states n list)

-- ---- all of them

all_state-append : (n : ℕ) (xs ys : List (List ℕ)) → all_state n (xs ++ ys) ≡ (all_state n xs && all_state n ys)
all_state-append n [] ys = refl
all_state-append n (x ∷ xs) ys =
    elim (states n x) as (λ t. (t && all_state n (xs ++ ys)) ≡ ((t && all_state n xs) && all_state n ys)) [ true ↦ all_state-append n xs ys | false ↦ refl ]

same_number : (n : ℕ) → is_number n (Some n) ≡ true
same_number n = grind (arith, nat_tests)

none_first : (m : List ℕ) (ms : List (List ℕ)) → number_of (trimmed m) ≡ None → one_number (m ∷ ms) ≡ None
none_first m ms e = ap (λ (o : Option ℕ). elim o [ None ↦ None | Some k ↦ cond (all_state k ms) (Some k) None ]) e

some_first : (n : ℕ) (m : List ℕ) (ms : List (List ℕ)) → number_of (trimmed m) ≡ Some n → one_number (m ∷ ms) ≡ cond (all_state n (m ∷ ms)) (Some n) None
some_first n m ms e =
    let here : is_number n (number_of (trimmed m)) ≡ true = ap (is_number n) e ∙ same_number n in
    ap (λ (o : Option ℕ). elim o [ None ↦ None | Some k ↦ cond (all_state k ms) (Some k) None ]) e
    ∙ ap (λ t. cond (t && all_state n ms) (Some n) None) (sym here)

-- the first value decides where it has another number
pub values_false : (n : ℕ) (v : FieldValue) (vs : List FieldValue) → all_state n (members v.bytes) ≡ false → all_state n (all_members (v ∷ vs)) ≡ false
values_false n v vs e = all_state-append n (members v.bytes) (all_members vs) ∙ ap (λ t. t && all_state n (all_members vs)) e

-- else the others do
pub values_true : (n : ℕ) (v : FieldValue) (vs : List FieldValue) → all_state n (members v.bytes) ≡ true → all_state n (all_members (v ∷ vs)) ≡ all_state n (all_members vs)
values_true n v vs e = all_state-append n (members v.bytes) (all_members vs) ∙ ap (λ t. t && all_state n (all_members vs)) e

-- the members of all values, where there is a first value
first_of_all : (values : List FieldValue) (first : List ℕ) → option_map (λ v. v.bytes) (slice_get values 0) ≡ Some first
    → (ms : List (List ℕ)) × (all_members values ≡ take (first_len first) first ∷ ms)
first_of_all [] first e = absurd (cc)
first_of_all (v ∷ vs) first e =
    let same : v.bytes ≡ first = cc e in
    let one = members_first v.bytes in
    (one.0 ++ all_members vs, ap (λ ms. ms ++ all_members vs) one.1 ∙ ap (λ b. take (first_len b) b ∷ (one.0 ++ all_members vs)) same)

pub stated_none : (values : List FieldValue) (first : List ℕ) → option_map (λ v. v.bytes) (slice_get values 0) ≡ Some first
    → first_number first ≡ None → length_of values ≡ None
stated_none values first is e =
    let all = first_of_all values first is in
    ap one_number all.1 ∙ none_first (take (first_len first) first) all.0 e

stated_some : (values : List FieldValue) (first : List ℕ) (n : ℕ) → option_map (λ v. v.bytes) (slice_get values 0) ≡ Some first
    → first_number first ≡ Some n → length_of values ≡ cond (all_state n (all_members values)) (Some n) None
stated_some values first n is e =
    let all = first_of_all values first is in
    ap one_number all.1 ∙ some_first n (take (first_len first) first) all.0 e ∙ sym (ap (λ ms. cond (all_state n ms) (Some n) None) all.1)

pub stated_yes : (values : List FieldValue) (first : List ℕ) (n : ℕ) → option_map (λ v. v.bytes) (slice_get values 0) ≡ Some first
    → first_number first ≡ Some n → all_state n (all_members values) ≡ true → length_of values ≡ Some n
stated_yes values first n is e same = stated_some values first n is e ∙ ap (λ t. cond t (Some n) None) same

pub stated_not : (values : List FieldValue) (first : List ℕ) (n : ℕ) → option_map (λ v. v.bytes) (slice_get values 0) ≡ Some first
    → first_number first ≡ Some n → all_state n (all_members values) ≡ false → length_of values ≡ None
stated_not values first n is e other = stated_some values first n is e ∙ ap (λ t. cond t (Some n) None) other

pub no_values : (values : List FieldValue) → option_map (λ v. v.bytes) (slice_get values 0) ≡ None → length_of values ≡ None
no_values [] e = refl
no_values (v ∷ vs) e = absurd (cc)

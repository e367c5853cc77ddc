-- The parts of lines that some allowed line begins with, and those that none does.
use Rattle.std.proofs.Common.{◌≡◌, ℕ, ◌+◌, ◌-◌, ◌*◌, ◌/◌, ◌%◌, ◌<◌, ◌≤◌, suc, List, [], ◌∷◌, ◌++◌, length, take, drop, Bool, true, false, ◌&&◌, cond, Option, Some, None, Ok, Err, replicate, refl, sym, ap, ◌∙◌, subst, arith, rules, append_assoc, append-nil, length-append, inl, inr}
use Rattle.std.specs.Prelude.{not, ◌==◌, ◌||◌, bytes_eq, codes, decimal, option_map, option_and_then, slice_index, MatchBool, ◌⊎◌}
use Rattle.std.specs.List.{list_all}
use Rattle.std.specs.Option.{is_none}
use Rattle.std.proofs.lemmas.Bool.{and_cases, and_parts, and_from, cases_Bool, cond-true, cond-false, or_cases, or_left, or_right, or_parts}
use Rattle.std.proofs.lemmas.Bool.Decides.{nat_tests}
use Rattle.std.proofs.lemmas.List.{take-append-drop, append_cancel_left, length-replicate}
use Rattle.std.proofs.lemmas.Option.{cond_some, option_and_then_some}
use Rattle.std.proofs.lemmas.List.Folds.{list_all-append}
use Rattle.std.proofs.lemmas.Slice.Eq.{bytes_eq-Decides}
use Rattle.link_uri.specs.declared.heard.Reply.{Reply}
use Rattle.site_core.specs.declared.expected.Field.{Field}
use Rattle.site_core.specs.declared.expected.Field.TheVariants.{Media, Coding, Location, Size}
use Rattle.site_core.specs.declared.expected.Expected.{Expected}
use Rattle.site_core.specs.declared.expected.Expected.TheVariants.{First, Between, Named, Headed}
use Rattle.site_core.specs.declared.expected.Step.TheVariants.{Misfit, Next, Finished, Body}
use Rattle.site_core.specs.Fields.{behind, is_digit, is_lf, is_number, is_printable, is_status, is_value, number_of}
use Rattle.site_core.specs.Growth.{CanGrow, CannotGrow, begins, field_grows, is_hundred, is_status_of, number_begins, rest_grows, status_begins, value_begins, word_grows}
use Rattle.site_core.specs.Lines.{bare, field_of, step, with_field, with_link, with_status}
use Rattle.site_core.specs.Places.{Answer, On, Reads, is_lf_at, look, look_body, look_step, reads_end, reads_on}
use Rattle.site_core.specs.Text.{Entry, ended}
use Rattle.std.proofs.Math.Seq.{get_or-append_seam}
use Rattle.site_core.proofs.Ends.{drop_front, drop_line, is_plain, take_front}
use Rattle.std.proofs.lemmas.Fmt.{decimal_digit, decimal_step}
use Rattle.std.specs.Str.Parse.{digits_value}
use Rattle.site_core.proofs.Numbers.{decimal-number, digit_value_is}
use Rattle.site_core.proofs.Printed.{digit_other, field-coding, field-location, field-type, lf_behind, look-line, plain-value, plain_from}
use Rattle.site_core.proofs.Sound.{behind_is, field_is}

-- ---- what it takes

-- a whole line that begins with the part and is allowed
pub grows_to : (done : List Entry) (expected next : Expected) (part more : List ℕ) → is_plain (part ++ more) ≡ true → step done expected (part ++ more) ≡ Next next → CanGrow done expected part
grows_to done expected next part more plain leads =
    let line = part ++ more in
    let whole : part ++ (more ++ 10 ∷ []) ≡ ended line ++ [] = sym (append_assoc part more (10 ∷ [])) ∙ sym (append-nil (ended line)) in
    let P : ℕ → List ℕ → Type 0 = λ at bs. Reads done expected at bs (Err (at + suc (length line))) in (
      more ++ 10 ∷ [],
      λ at. (
        Err (at + suc (length line)),
        subst (λ (bs : List ℕ). P at bs) (sym whole) (reads_on (look-line done expected at line [] plain ∙ ap (look_step done at (at + suc (length line)) []) leads) (reads_end refl)),
        λ same. (let e : at + suc (length line) ≡ at = cc in omega arith),
      ),
    )

pub grows_to_end : (done : List Entry) (expected : Expected) (part more : List ℕ) → is_plain (part ++ more) ≡ true → step done expected (part ++ more) ≡ Finished → CanGrow done expected part
grows_to_end done expected part more plain ends =
    let line = part ++ more in
    let whole : part ++ (more ++ 10 ∷ []) ≡ ended line ++ [] = sym (append_assoc part more (10 ∷ [])) ∙ sym (append-nil (ended line)) in
    let P : ℕ → List ℕ → Type 0 = λ at bs. Reads done expected at bs (Ok done) in (
      more ++ 10 ∷ [],
      λ at. (
        Ok done,
        subst (λ (bs : List ℕ). P at bs) (sym whole) (reads_end (look-line done expected at line [] plain ∙ ap (look_step done at (at + suc (length line)) []) ends)),
        λ same. (cc),
      ),
    )

-- ---- words

pub begins_is : (word part : List ℕ) → begins word part ≡ true → word ≡ part ++ drop (length part) word
begins_is word part h =
    sym (take-append-drop (length part) word) ∙ ap (λ bs. bs ++ drop (length part) word) (sym ((bytes_eq-Decides part (take (length part) word)).0 h))

take_part : (part more : List ℕ) → take (length part) (part ++ more) ≡ part
take_part [] more = refl
take_part (b ∷ part) more = ap (λ bs. b ∷ bs) (take_part part more)

pub false_unless : (a b : List ℕ) → (a ≡ b → ⊥) → bytes_eq a b ≡ false
false_unless a b apart =
    elim (cases_Bool (bytes_eq a b)) [ inl same ↦ absurd (apart ((bytes_eq-Decides a b).0 same)) | inr other ↦ other ]

pub begins_not : (word part more : List ℕ) → begins word part ≡ false → word ≡ part ++ more → ⊥
begins_not word part more h is =
    let front : take (length part) word ≡ part = ap (take (length part)) is ∙ take_part part more in
    let same : begins word part ≡ true = (bytes_eq-Decides part (take (length part) word)).1 (sym front) in
    cc

pub first_grows : (done : List Entry) (part : List ℕ) → begins (codes "site 1") part ≡ true → CanGrow done First part
first_grows done part h =
    let word = codes "site 1" in
    let more = drop (length part) word in
    let is : word ≡ part ++ more = begins_is word part h in
    let P : List ℕ → Type 0 = λ bs. is_plain bs ≡ true in
    let Q : List ℕ → Type 0 = λ bs. step done First bs ≡ Next Between in
    grows_to done First Between part more (subst P is refl) (subst Q is refl)

pub first_stays : (done : List Entry) (part : List ℕ) → begins (codes "site 1") part ≡ false → CannotGrow done First part
first_stays done part h more =
    cond-false (bytes_eq (part ++ more) (codes "site 1")) (Next Between) Misfit
    (false_unless (part ++ more) (codes "site 1") (λ same. begins_not (codes "site 1") part more h (sym same)))

pub end_grows : (done : List Entry) (part : List ℕ) → begins (codes "end") part ≡ true → CanGrow done Between part
end_grows done part h =
    let word = codes "end" in
    let more = drop (length part) word in
    let is : word ≡ part ++ more = begins_is word part h in
    let P : List ℕ → Type 0 = λ bs. is_plain bs ≡ true in
    let Q : List ℕ → Type 0 = λ bs. step done Between bs ≡ Finished in
    grows_to_end done Between part more (subst P is refl) (subst Q is refl)

-- of two texts that begin one text, one begins the other
comparable : (word part more rest : List ℕ) → part ++ more ≡ word ++ rest → (begins word part ≡ true) ⊎ (bytes_eq (take (length word) part) word ≡ true)
comparable [] part more rest same = inr refl
comparable (w ∷ word) [] more rest same = inl refl
comparable (w ∷ word) (b ∷ part) more rest same =
    let head : b ≡ w = cc in
    let tail : part ++ more ≡ word ++ rest = cc in
    let equal : (b == w) ≡ true = search (rules, head) in
    elim (comparable word part more rest tail) [
      | inl begun ↦ inl (and_from (b == w) (begins word part) equal begun)
      | inr passed ↦ inr (and_from (b == w) (bytes_eq (take (length word) part) word) equal passed)
    ]

-- a part that neither begins a word nor begins with it has nothing behind the word
none_behind : (word part more : List ℕ) → begins word part ≡ false → behind word part ≡ None → behind word (part ++ more) ≡ None
none_behind word part more h none =
    elim (cases_Bool (bytes_eq (take (length word) (part ++ more)) word)) [
      | inl whole ↦
          let rest = drop (length word) (part ++ more) in
          let text : part ++ more ≡ word ++ rest = sym (take-append-drop (length word) (part ++ more)) ∙ ap (λ bs. bs ++ rest) ((bytes_eq-Decides (take (length word) (part ++ more)) word).0 whole) in
          elim (comparable word part more rest text) [
            | inl begun ↦ absurd (cc)
            | inr passed ↦ absurd (let found = cond-true (bytes_eq (take (length word) part) word) (Some (drop (length word) part)) None passed in cc)
          ]
      | inr other ↦ cond-false (bytes_eq (take (length word) (part ++ more)) word) (Some (drop (length word) (part ++ more))) None other
    ]

pub between_stays : (done : List Entry) (part : List ℕ) → begins (codes "end") part ≡ false → begins (codes "link ") part ≡ false → behind (codes "link ") part ≡ None → CannotGrow done Between part
between_stays done part no_end no_link none more =
    cond-false (bytes_eq (part ++ more) (codes "end")) Finished (with_link done (behind (codes "link ") (part ++ more)))
    (false_unless (part ++ more) (codes "end") (λ same. begins_not (codes "end") part more no_end (sym same)))
    ∙ ap (with_link done) (none_behind (codes "link ") part more no_link none)

-- what a test of the part says
abbrev pub Tells : List Entry → Expected → List ℕ → Bool → Type 0
Tells done expected part grows = MatchBool grows (CanGrow done expected part) (CannotGrow done expected part)

pub tells : (done : List Entry) (expected : Expected) (part : List ℕ) (grows : Bool) → (grows ≡ true → CanGrow done expected part) → (grows ≡ false → CannotGrow done expected part) → Tells done expected part grows
tells done expected part true yes_ no_ = yes_ refl
tells done expected part false yes_ no_ = no_ refl

pub first_tells : (done : List Entry) (part : List ℕ) → Tells done First part (begins (codes "site 1") part)
first_tells done part = tells done First part (begins (codes "site 1") part) (first_grows done part) (first_stays done part)

-- ---- the status line

three_digits : (n : ℕ) → 100 ≤ n → n < 1000 → decimal n ≡ (48 + n / 100) ∷ (48 + n / 10 % 10) ∷ (48 + n % 10) ∷ []
three_digits n low high =
    let tens : n / 10 / 10 ≡ n / 100 = omega arith in
    decimal_step n (omega arith) (omega arith)
    ∙ ap (λ ds. ds ++ ((48 + n % 10) ∷ [])) (decimal_step (n / 10) (omega arith) (omega arith) ∙ ap (λ ds. ds ++ ((48 + n / 10 % 10) ∷ [])) (decimal_digit (n / 10 / 10) (omega arith)))
    ∙ ap (λ k. (48 + k) ∷ (48 + n / 10 % 10) ∷ (48 + n % 10) ∷ []) tens

status_range : (n : ℕ) → is_status n ≡ true → (200 ≤ n) × (n ≤ 599)
status_range n valid = (grind (arith, nat_tests), grind (arith, nat_tests))

-- the text of a final status
status_text : (text : List ℕ) (n : ℕ) → number_of text ≡ Some n → is_status n ≡ true → text ≡ (48 + n / 100) ∷ (48 + n / 10 % 10) ∷ (48 + n % 10) ∷ []
status_text text n writes valid =
    let range = status_range n valid in
    sym (decimal-number text n writes (omega (arith, range.1))) ∙ three_digits n (omega (arith, range.0)) (omega (arith, range.1))

hundred_at : (h : ℕ) → 2 ≤ h → h ≤ 5 → is_hundred (48 + h) ≡ true
hundred_at h low high = grind (arith, nat_tests)

hundred_of : (n : ℕ) → 200 ≤ n → n ≤ 599 → is_hundred (48 + n / 100) ≡ true
hundred_of n low high = let h : 2 ≤ n / 100 = omega arith in let k : n / 100 ≤ 5 = omega arith in hundred_at (n / 100) h k

digit_of : (d : ℕ) → d < 10 → is_digit (48 + d) ≡ true
digit_of d small = grind (arith, nat_tests)

nothing_left : (xs ys : List ℕ) → xs ++ ys ≡ [] → xs ≡ []
nothing_left [] ys e = refl
nothing_left (x ∷ xs) ys e = absurd cc

-- a part that a final status goes on from passes the test
status_part : (digits more : List ℕ) (n : ℕ) → number_of (digits ++ more) ≡ Some n → is_status n ≡ true → status_begins digits ≡ true
status_part [] more n writes valid = refl
status_part (a ∷ []) more n writes valid =
    let range = status_range n valid in
    let text = status_text (a ∷ more) n writes valid in
    let first : a ≡ 48 + n / 100 = cc in
    let P : ℕ → Type 0 = λ k. is_hundred k ≡ true in
    subst P (sym first) (hundred_of n range.0 range.1)
status_part (a ∷ b ∷ []) more n writes valid =
    let range = status_range n valid in
    let text = status_text (a ∷ b ∷ more) n writes valid in
    let first : a ≡ 48 + n / 100 = cc in
    let second : b ≡ 48 + n / 10 % 10 = cc in
    let P : ℕ → Type 0 = λ k. is_hundred k ≡ true in
    let Q : ℕ → Type 0 = λ k. is_digit k ≡ true in
    and_from (is_hundred a) (is_digit b) (subst P (sym first) (hundred_of n range.0 range.1)) (subst Q (sym second) (digit_of (n / 10 % 10) (omega arith)))
status_part (a ∷ b ∷ x ∷ digits) more n writes valid =
    let text = status_text (a ∷ b ∷ x ∷ (digits ++ more)) n writes valid in
    let ends : digits ++ more ≡ [] = cc in
    let whole : (a ∷ b ∷ x ∷ digits) ++ more ≡ a ∷ b ∷ x ∷ digits = ap (λ bs. a ∷ b ∷ x ∷ bs) (ends ∙ sym (nothing_left digits more ends)) in
    let P : List ℕ → Type 0 = λ bs. number_of bs ≡ Some n in
    let found : number_of (a ∷ b ∷ x ∷ digits) ≡ Some n = subst P whole writes in
    let k = length digits in
    cond-false (suc (suc (suc k)) == 0) true (cond (suc (suc (suc k)) == 1) (is_hundred a) (cond (suc (suc (suc k)) == 2) (is_hundred a && is_digit b) (is_status_of (number_of (a ∷ b ∷ x ∷ digits))))) (grind (arith, nat_tests))
    ∙ cond-false (suc (suc (suc k)) == 1) (is_hundred a) (cond (suc (suc (suc k)) == 2) (is_hundred a && is_digit b) (is_status_of (number_of (a ∷ b ∷ x ∷ digits)))) (grind (arith, nat_tests))
    ∙ cond-false (suc (suc (suc k)) == 2) (is_hundred a && is_digit b) (is_status_of (number_of (a ∷ b ∷ x ∷ digits))) (grind (arith, nat_tests))
    ∙ ap is_status_of found ∙ valid

status_none : (link : List ℕ) (found : Option ℕ) → ((n : ℕ) → found ≡ Some n → is_status n ≡ true → ⊥) → with_status link found ≡ Misfit
status_none link None never = refl
status_none link (Some n) never =
    elim (cases_Bool (is_status n)) [ inl valid ↦ absurd (never n refl valid) | inr other ↦ cond-false (is_status n) (Next (Headed link (bare n))) Misfit other ]

rest_of_at : (word part more found : List ℕ) (b : Option (List ℕ)) → behind word part ≡ b → begins word part ≡ false → behind word (part ++ more) ≡ Some found → (test : List ℕ → Bool) → rest_grows test b ≡ false → ((rest : List ℕ) → found ≡ rest ++ more → test rest ≡ true) → ⊥
rest_of_at word part more found None is no_word at test refused allowed = let none = none_behind word part more no_word is in cc
rest_of_at word part more found (Some rest) is no_word at test refused allowed =
    let part_is : part ≡ word ++ rest = behind_is word part rest is in
    let whole : part ++ more ≡ word ++ found = behind_is word (part ++ more) found at in
    let longer : word ++ found ≡ word ++ (rest ++ more) = sym whole ∙ ap (λ bs. bs ++ more) part_is ∙ append_assoc word rest more in
    let holds = allowed rest (append_cancel_left word found (rest ++ more) longer) in
    cc

-- what stands behind the word goes on from what the part has there, which the test refuses
rest_of : (word part more found : List ℕ) → begins word part ≡ false → behind word (part ++ more) ≡ Some found → (test : List ℕ → Bool) → rest_grows test (behind word part) ≡ false → ((rest : List ℕ) → found ≡ rest ++ more → test rest ≡ true) → ⊥
rest_of word part more found no_word at test refused allowed = rest_of_at word part more found (behind word part) refl no_word at test refused allowed

pub status_stays : (done : List Entry) (link part : List ℕ) → word_grows status_begins (codes "status ") part ≡ false → CannotGrow done (Named link) part
status_stays done link part h more =
    let no = or_parts (begins (codes "status ") part) (rest_grows status_begins (behind (codes "status ") part)) h in
    status_none link (option_and_then number_of (behind (codes "status ") (part ++ more))) (λ n found.
    option_and_then_some number_of (behind (codes "status ") (part ++ more)) n found (λ digits at writes valid.
    rest_of (codes "status ") part more digits no.0 at status_begins no.1 (λ rest is. status_part rest more n (let P : List ℕ → Type 0 = λ bs. number_of bs ≡ Some n in subst P is writes) valid)))

hundred_range : (a : ℕ) → is_hundred a ≡ true → (50 ≤ a) × (a ≤ 53)
hundred_range a first = (grind (arith, nat_tests), grind (arith, nat_tests))

digit_range : (b : ℕ) → is_digit b ≡ true → (48 ≤ b) × (b ≤ 57)
digit_range b second = (grind (arith, nat_tests), grind (arith, nat_tests))

apart_from : (n m : ℕ) → (n ≡ m → ⊥) → (n == m) ≡ false
apart_from n m other = grind (arith, nat_tests, other)

final_of : (a b : ℕ) → is_hundred a ≡ true → is_digit b ≡ true → (n : ℕ) → n ≡ (a - 48) * 100 + (b - 48) * 10 → is_status n ≡ true
final_of a b first second n is =
    let bounds = hundred_range a first in
    let digits = digit_range b second in
    let low : 200 ≤ n = omega (arith, is, bounds.0) in
    let high : n ≤ 599 = omega (arith, is, bounds.0, bounds.1, digits.1) in
    let not_four : (n == 204) ≡ false = apart_from n 204 (omega (arith, is, bounds.0, bounds.1, digits.0, digits.1)) in
    let not_three : (n == 304) ≡ false = apart_from n 304 (omega (arith, is, bounds.0, bounds.1, digits.0, digits.1)) in
    grind (arith, nat_tests, low, high, not_four, not_three)

-- three digits that write a final status
status_digits : (a b : ℕ) → is_hundred a ≡ true → is_digit b ≡ true → (n : ℕ) × (number_of (a ∷ b ∷ 48 ∷ []) ≡ Some n) × (is_status n ≡ true)
status_digits a b first second =
    let value = digits_value 10 (a ∷ b ∷ 48 ∷ []) in
    let digit : is_digit a ≡ true = grind (arith, nat_tests) in
    let nonzero : not (a == 48) ≡ true = grind (arith, nat_tests) in
    let a_is = digit_value_is a digit in
    let b_is = digit_value_is b second in
    let zero_is = digit_value_is 48 refl in
    let number : is_number (a ∷ b ∷ 48 ∷ []) ≡ true =
    and_from (is_digit a && (is_digit b && true)) (not (a == 48) || false) (and_from (is_digit a) (is_digit b && true) digit (and_from (is_digit b) true second refl)) (or_left (not (a == 48)) false nonzero) in
    (value, cond-true (is_number (a ∷ b ∷ 48 ∷ [])) (Some value) None number, final_of a b first second value (omega (arith, a_is.0, b_is.0, a_is.1, b_is.1)))

-- the whole status line
status_to : (done : List Entry) (link part digits more : List ℕ) (n : ℕ) → part ≡ codes "status " ++ digits → list_all is_digit (digits ++ more) ≡ true → number_of (digits ++ more) ≡ Some n → is_status n ≡ true → CanGrow done (Named link) part
status_to done link part digits more n is all writes valid =
    let line : part ++ more ≡ codes "status " ++ (digits ++ more) = ap (λ bs. bs ++ more) is ∙ append_assoc (codes "status ") digits more in
    let P : List ℕ → Type 0 = λ bs. is_plain bs ≡ true in
    let Q : List ℕ → Type 0 = λ bs. step done (Named link) bs ≡ Next (Headed link (bare n)) in
    grows_to done (Named link) (Headed link (bare n)) part more
    (subst P (sym line) (plain_from is_digit digit_other (digits ++ more) all))
    (subst Q (sym line) (ap (with_status link) writes ∙ cond-true (is_status n) (Next (Headed link (bare n))) Misfit valid))

digits_of : (text : List ℕ) (n : ℕ) → number_of text ≡ Some n → list_all is_digit text ≡ true
digits_of text n writes =
    let number = (cond_some (is_number text) (digits_value 10 text) n writes).0 in
    let outer = and_parts (not (length text == 0)) (list_all is_digit text && (not (slice_index text 0 == 48) || (length text == 1))) number in
    (and_parts (list_all is_digit text) (not (slice_index text 0 == 48) || (length text == 1)) outer.1).0

status_whole : (done : List Entry) (link part text : List ℕ) → part ≡ codes "status " ++ text → (found : Option ℕ) → number_of text ≡ found → is_status_of found ≡ true → CanGrow done (Named link) part
status_whole done link part text is None writes valid = absurd cc
status_whole done link part text is (Some n) writes valid =
    let P : List ℕ → Type 0 = λ bs. list_all is_digit bs ≡ true in
    let Q : List ℕ → Type 0 = λ bs. number_of bs ≡ Some n in
    status_to done link part text [] n is (subst P (sym (append-nil text)) (digits_of text n writes)) (subst Q (sym (append-nil text)) writes) valid

status_on : (done : List Entry) (link part digits : List ℕ) → part ≡ codes "status " ++ digits → status_begins digits ≡ true → CanGrow done (Named link) part
status_on done link part [] is goes = status_to done link part [] (codes "200") 200 is refl refl refl
status_on done link part (a ∷ []) is goes =
    let made = status_digits a 48 goes refl in
    status_to done link part (a ∷ []) (48 ∷ 48 ∷ []) made.0 is (digits_of (a ∷ 48 ∷ 48 ∷ []) made.0 made.1) made.1 made.2
status_on done link part (a ∷ b ∷ []) is goes =
    let parts = and_parts (is_hundred a) (is_digit b) goes in
    let made = status_digits a b parts.0 parts.1 in
    status_to done link part (a ∷ b ∷ []) (48 ∷ []) made.0 is (digits_of (a ∷ b ∷ 48 ∷ []) made.0 made.1) made.1 made.2
status_on done link part (a ∷ b ∷ x ∷ digits) is goes =
    let text = a ∷ b ∷ x ∷ digits in
    let k = length digits in
    let whole : is_status_of (number_of text) ≡ true =
    sym (cond-false (suc (suc (suc k)) == 0) true (cond (suc (suc (suc k)) == 1) (is_hundred a) (cond (suc (suc (suc k)) == 2) (is_hundred a && is_digit b) (is_status_of (number_of text)))) (grind (arith, nat_tests))
    ∙ cond-false (suc (suc (suc k)) == 1) (is_hundred a) (cond (suc (suc (suc k)) == 2) (is_hundred a && is_digit b) (is_status_of (number_of text))) (grind (arith, nat_tests))
    ∙ cond-false (suc (suc (suc k)) == 2) (is_hundred a && is_digit b) (is_status_of (number_of text)) (grind (arith, nat_tests)))
    ∙ goes in
    status_whole done link part text is (number_of text) refl whole

rest_status : (done : List Entry) (link part : List ℕ) (b : Option (List ℕ)) → behind (codes "status ") part ≡ b → rest_grows status_begins b ≡ true → CanGrow done (Named link) part
rest_status done link part None is goes = absurd cc
rest_status done link part (Some digits) is goes = status_on done link part digits (behind_is (codes "status ") part digits is) goes

pub status_grows : (done : List Entry) (link part : List ℕ) → word_grows status_begins (codes "status ") part ≡ true → CanGrow done (Named link) part
status_grows done link part h =
    elim (or_cases (begins (codes "status ") part) (rest_grows status_begins (behind (codes "status ") part)) h) [
      | inl begun ↦
          let word = codes "status " in
          let more = drop (length part) word ++ (codes "200") in
          let is : word ++ codes "200" ≡ part ++ more = ap (λ bs. bs ++ codes "200") (begins_is word part begun) ∙ append_assoc part (drop (length part) word) (codes "200") in
          let P : List ℕ → Type 0 = λ bs. is_plain bs ≡ true in
          let Q : List ℕ → Type 0 = λ bs. step done (Named link) bs ≡ Next (Headed link (bare 200)) in
          grows_to done (Named link) (Headed link (bare 200)) part more (subst P is refl) (subst Q is refl)
      | inr goes ↦ rest_status done link part (behind (codes "status ") part) refl goes
    ]

pub status_tells : (done : List Entry) (link part : List ℕ) → Tells done (Named link) part (word_grows status_begins (codes "status ") part)
status_tells done link part = tells done (Named link) part (word_grows status_begins (codes "status ") part) (status_grows done link part) (status_stays done link part)

-- ---- the lines behind a status line

some_bytes : (n : ℕ) → not (suc n == 0) ≡ true
some_bytes n = grind (arith, nat_tests)

single_front : (m n : ℕ) → m ≤ n → (suc n == 1) ≡ true → (suc m == 1) ≡ true
single_front m n below single = grind (arith, nat_tests)

last_of : (bs : List ℕ) (b : ℕ) → slice_index (bs ++ b ∷ []) (length (bs ++ b ∷ []) - 1) ≡ b
last_of bs b = let at : length (bs ++ b ∷ []) - 1 ≡ length bs = omega (arith, length-append bs (b ∷ [])) in ap (slice_index (bs ++ b ∷ [])) at ∙ get_or-append_seam bs b [] 0

begun_value : (b : ℕ) (value : List ℕ) → value_begins (b ∷ value) ≡ true → (list_all is_printable (b ∷ value) && not (b == 32)) ≡ true
begun_value b value goes =
    elim (or_cases (length (b ∷ value) == 0) (list_all is_printable (b ∷ value) && not (b == 32)) goes) [
      | inl empty ↦ absurd (let some_ = some_bytes (length value) in grind (arith, nat_tests, empty, some_))
      | inr holds ↦ holds
    ]

behind_of : (word line rest : List ℕ) → line ≡ word ++ rest → behind word line ≡ Some rest
behind_of word line rest is =
    let P : List ℕ → Type 0 = λ bs. behind word bs ≡ Some rest in
    subst P (sym is)
    (cond-true (bytes_eq (take (length word) (word ++ rest)) word) (Some (drop (length word) (word ++ rest))) None ((bytes_eq-Decides (take (length word) (word ++ rest)) word).1 (take_front word rest)) ∙ ap Some (drop_front word rest))

-- a value goes on to one that is whole
value_on : (value : List ℕ) → value_begins value ≡ true → is_value (value ++ 126 ∷ []) ≡ true
value_on [] goes = refl
value_on (b ∷ value) goes =
    let whole = (b ∷ value) ++ 126 ∷ [] in
    let parts = and_parts (list_all is_printable (b ∷ value)) (not (b == 32)) (begun_value b value goes) in
    let printable : list_all is_printable whole ≡ true = list_all-append is_printable (b ∷ value) (126 ∷ []) ∙ and_from (list_all is_printable (b ∷ value)) true parts.0 refl in
    let last : slice_index whole (length whole - 1) ≡ 126 = last_of (b ∷ value) 126 in
    let ends : not (slice_index whole (length whole - 1) == 32) ≡ true = ap (λ k. not (k == 32)) last in
    and_from (not (length whole == 0)) (list_all is_printable whole && (not (b == 32) && not (slice_index whole (length whole - 1) == 32))) (some_bytes (length (value ++ 126 ∷ [])))
    (and_from (list_all is_printable whole) (not (b == 32) && not (slice_index whole (length whole - 1) == 32)) printable (and_from (not (b == 32)) (not (slice_index whole (length whole - 1) == 32)) parts.1 ends))

-- where no value begins so, none goes on
value_off : (value more : List ℕ) → value_begins value ≡ false → is_value (value ++ more) ≡ true → ⊥
value_off [] more stops valid = cc
value_off (b ∷ value) more stops valid =
    let whole = (b ∷ value) ++ more in
    let inner = (and_parts (not (length whole == 0)) (list_all is_printable whole && (not (b == 32) && not (slice_index whole (length whole - 1) == 32))) valid).1 in
    let parts = and_parts (list_all is_printable whole) (not (b == 32) && not (slice_index whole (length whole - 1) == 32)) inner in
    let front = (and_parts (list_all is_printable (b ∷ value)) (list_all is_printable more) (sym (list_all-append is_printable (b ∷ value) more) ∙ parts.0)).0 in
    let first = (and_parts (not (b == 32)) (not (slice_index whole (length whole - 1) == 32)) parts.1).0 in
    let begun : value_begins (b ∷ value) ≡ true = or_right (length (b ∷ value) == 0) (list_all is_printable (b ∷ value) && not (b == 32)) (and_from (list_all is_printable (b ∷ value)) (not (b == 32)) front first) in
    cc

-- where no number begins so, none goes on
number_off : (digits more : List ℕ) (n : ℕ) → number_begins digits ≡ false → number_of (digits ++ more) ≡ Some n → ⊥
number_off [] more n stops writes = cc
number_off (d ∷ digits) more n stops writes =
    let whole = (d ∷ digits) ++ more in
    let number = (cond_some (is_number whole) (digits_value 10 whole) n writes).0 in
    let outer = and_parts (not (length whole == 0)) (list_all is_digit whole && (not (d == 48) || (length whole == 1))) number in
    let parts = and_parts (list_all is_digit whole) (not (d == 48) || (length whole == 1)) outer.1 in
    let front = (and_parts (list_all is_digit (d ∷ digits)) (list_all is_digit more) (sym (list_all-append is_digit (d ∷ digits) more) ∙ parts.0)).0 in
    let form : (not (d == 48) || (length (d ∷ digits) == 1)) ≡ true =
    elim (or_cases (not (d == 48)) (length whole == 1) parts.1) [
      | inl nonzero ↦ or_left (not (d == 48)) (length (d ∷ digits) == 1) nonzero
      | inr single ↦ or_right (not (d == 48)) (length (d ∷ digits) == 1) (single_front (length digits) (length (digits ++ more)) (omega (arith, length-append digits more)) single)
    ] in
    let begun : number_begins (d ∷ digits) ≡ true =
    or_right (length (d ∷ digits) == 0) (is_number (d ∷ digits)) (and_from (not (length (d ∷ digits) == 0)) (list_all is_digit (d ∷ digits) && (not (d == 48) || (length (d ∷ digits) == 1))) (some_bytes (length digits))
    (and_from (list_all is_digit (d ∷ digits)) (not (d == 48) || (length (d ∷ digits) == 1)) front form)) in
    cc

-- a line of a field that begins with the part has its word's test passed
value_fits : (word part more value : List ℕ) → word_grows value_begins word part ≡ false → part ++ more ≡ word ++ value → is_value value ≡ true → ⊥
value_fits word part more value stops is valid =
    let no = or_parts (begins word part) (rest_grows value_begins (behind word part)) stops in
    rest_of word part more value no.0 (behind_of word (part ++ more) value is) value_begins no.1
    (λ rest value_is. elim (cases_Bool (value_begins rest)) [
      | inl begun ↦ begun
      | inr other ↦ absurd (value_off rest more other (let P : List ℕ → Type 0 = λ bs. is_value bs ≡ true in subst P value_is valid))
    ])

size_fits : (part more digits : List ℕ) (n : ℕ) → word_grows number_begins (codes "body ") part ≡ false → part ++ more ≡ codes "body " ++ digits → number_of digits ≡ Some n → ⊥
size_fits part more digits n stops is writes =
    let word = codes "body " in
    let no = or_parts (begins word part) (rest_grows number_begins (behind word part)) stops in
    rest_of word part more digits no.0 (behind_of word (part ++ more) digits is) number_begins no.1
    (λ rest digits_is. elim (cases_Bool (number_begins rest)) [
      | inl begun ↦ begun
      | inr other ↦ absurd (number_off rest more n other (let P : List ℕ → Type 0 = λ bs. number_of bs ≡ Some n in subst P digits_is writes))
    ])

field_misfit : (link part more : List ℕ) (reply : Reply) → field_grows reply part ≡ false → (found : Option Field) → field_of (part ++ more) ≡ found → with_field link reply found ≡ Misfit
field_misfit link part more reply stops None is = refl
field_misfit link part more reply stops (Some (Media value)) is =
    let has = field_is (part ++ more) (Media value) is in
    let free = is_none reply.media && (is_none reply.coding && is_none reply.location) in
    let no = or_parts (free && word_grows value_begins (codes "type ") part) (((is_none reply.coding && is_none reply.location) && word_grows value_begins (codes "coding ") part) || ((is_none reply.location && word_grows value_begins (codes "location ") part) || word_grows number_begins (codes "body ") part)) stops in
    elim (and_cases free (word_grows value_begins (codes "type ") part) no.0) [
      | inl taken ↦ cond-false free (Next (Headed link (record reply { media = Some value }))) Misfit taken
      | inr other ↦ absurd (value_fits (codes "type ") part more value other has.0 has.1)
    ]
field_misfit link part more reply stops (Some (Coding value)) is =
    let has = field_is (part ++ more) (Coding value) is in
    let free = is_none reply.coding && is_none reply.location in
    let outer = or_parts ((is_none reply.media && (is_none reply.coding && is_none reply.location)) && word_grows value_begins (codes "type ") part) ((free && word_grows value_begins (codes "coding ") part) || ((is_none reply.location && word_grows value_begins (codes "location ") part) || word_grows number_begins (codes "body ") part)) stops in
    let no = or_parts (free && word_grows value_begins (codes "coding ") part) ((is_none reply.location && word_grows value_begins (codes "location ") part) || word_grows number_begins (codes "body ") part) outer.1 in
    elim (and_cases free (word_grows value_begins (codes "coding ") part) no.0) [
      | inl taken ↦ cond-false free (Next (Headed link (record reply { coding = Some value }))) Misfit taken
      | inr other ↦ absurd (value_fits (codes "coding ") part more value other has.0 has.1)
    ]
field_misfit link part more reply stops (Some (Location value)) is =
    let has = field_is (part ++ more) (Location value) is in
    let free = is_none reply.location in
    let outer = or_parts ((is_none reply.media && (is_none reply.coding && is_none reply.location)) && word_grows value_begins (codes "type ") part) (((is_none reply.coding && is_none reply.location) && word_grows value_begins (codes "coding ") part) || ((free && word_grows value_begins (codes "location ") part) || word_grows number_begins (codes "body ") part)) stops in
    let inner = or_parts ((is_none reply.coding && is_none reply.location) && word_grows value_begins (codes "coding ") part) ((free && word_grows value_begins (codes "location ") part) || word_grows number_begins (codes "body ") part) outer.1 in
    let no = or_parts (free && word_grows value_begins (codes "location ") part) (word_grows number_begins (codes "body ") part) inner.1 in
    elim (and_cases free (word_grows value_begins (codes "location ") part) no.0) [
      | inl taken ↦ cond-false free (Next (Headed link (record reply { location = Some value }))) Misfit taken
      | inr other ↦ absurd (value_fits (codes "location ") part more value other has.0 has.1)
    ]
field_misfit link part more reply stops (Some (Size n)) is =
    let has = field_is (part ++ more) (Size n) is in
    let outer = or_parts ((is_none reply.media && (is_none reply.coding && is_none reply.location)) && word_grows value_begins (codes "type ") part) (((is_none reply.coding && is_none reply.location) && word_grows value_begins (codes "coding ") part) || ((is_none reply.location && word_grows value_begins (codes "location ") part) || word_grows number_begins (codes "body ") part)) stops in
    let inner = or_parts ((is_none reply.coding && is_none reply.location) && word_grows value_begins (codes "coding ") part) ((is_none reply.location && word_grows value_begins (codes "location ") part) || word_grows number_begins (codes "body ") part) outer.1 in
    let no = or_parts (is_none reply.location && word_grows value_begins (codes "location ") part) (word_grows number_begins (codes "body ") part) inner.1 in
    absurd (size_fits part more has.0 n no.1 has.1 has.2)

-- none of the four passes
field_stays : (done : List Entry) (link part : List ℕ) (reply : Reply) → field_grows reply part ≡ false → CannotGrow done (Headed link reply) part
field_stays done link part reply stops more = field_misfit link part more reply stops (field_of (part ++ more)) refl

value_line_goes : (done : List Entry) (link part word : List ℕ) (reply : Reply) (wrap : List ℕ → Reply) → is_plain word ≡ true
    → ((value : List ℕ) → is_value value ≡ true → step done (Headed link reply) (word ++ value) ≡ Next (Headed link (wrap value)))
    → (more value : List ℕ) → word ++ value ≡ part ++ more → is_value value ≡ true → CanGrow done (Headed link reply) part
value_line_goes done link part word reply wrap plain leads more value line valid =
    let P : List ℕ → Type 0 = λ bs. is_plain bs ≡ true in
    let Q : List ℕ → Type 0 = λ bs. step done (Headed link reply) bs ≡ Next (Headed link (wrap value)) in
    let whole : is_plain (word ++ value) ≡ true = list_all-append (λ b. not (is_lf b)) word value ∙ and_from (is_plain word) (is_plain value) plain (plain-value value valid) in
    grows_to done (Headed link reply) (Headed link (wrap value)) part more (subst P line whole) (subst Q line (leads value valid))

value_rest_goes : (done : List Entry) (link part word : List ℕ) (reply : Reply) (wrap : List ℕ → Reply) → is_plain word ≡ true
    → ((value : List ℕ) → is_value value ≡ true → step done (Headed link reply) (word ++ value) ≡ Next (Headed link (wrap value)))
    → (b : Option (List ℕ)) → behind word part ≡ b → rest_grows value_begins b ≡ true → CanGrow done (Headed link reply) part
value_rest_goes done link part word reply wrap plain leads None is passed = absurd cc
value_rest_goes done link part word reply wrap plain leads (Some value) is passed =
    let line : word ++ (value ++ 126 ∷ []) ≡ part ++ 126 ∷ [] = sym (append_assoc word value (126 ∷ [])) ∙ ap (λ bs. bs ++ 126 ∷ []) (sym (behind_is word part value is)) in
    value_line_goes done link part word reply wrap plain leads (126 ∷ []) (value ++ 126 ∷ []) line (value_on value passed)

-- a line of a value that goes on to a whole one
value_goes : (done : List Entry) (link part word : List ℕ) (reply : Reply) (wrap : List ℕ → Reply) → is_plain word ≡ true
    → ((value : List ℕ) → is_value value ≡ true → step done (Headed link reply) (word ++ value) ≡ Next (Headed link (wrap value)))
    → (b : Option (List ℕ)) → behind word part ≡ b → (begins word part || rest_grows value_begins b) ≡ true → CanGrow done (Headed link reply) part
value_goes done link part word reply wrap plain leads b is goes =
    elim (or_cases (begins word part) (rest_grows value_begins b) goes) [
      | inl begun ↦
          let more = drop (length part) word ++ 126 ∷ [] in
          let line : word ++ 126 ∷ [] ≡ part ++ more = ap (λ bs. bs ++ 126 ∷ []) (begins_is word part begun) ∙ append_assoc part (drop (length part) word) (126 ∷ []) in
          value_line_goes done link part word reply wrap plain leads more (126 ∷ []) line refl
      | inr passed ↦ value_rest_goes done link part word reply wrap plain leads b is passed
    ]

pub body_grows_to : (done : List Entry) (link : List ℕ) (expected : Expected) (reply : Reply) (part more : List ℕ) (n : ℕ) → is_plain (part ++ more) ≡ true → step done expected (part ++ more) ≡ Body link reply n → CanGrow done expected part
body_grows_to done link expected reply part more n plain steps =
    let line : List ℕ = part ++ more in
    let body : List ℕ = replicate n 0 in
    let filled : List ℕ = body ++ 10 ∷ [] in
    let sized : length body ≡ n = length-replicate n 0 in
    let whole : part ++ (more ++ 10 ∷ filled) ≡ ended line ++ filled = sym (append_assoc part more (10 ∷ filled)) ∙ sym (append_assoc line (10 ∷ []) filled) in (
      more ++ 10 ∷ filled,
      λ at.
          let next : ℕ = at + suc (length line) in
          let entry : ℕ → Entry = λ k. (link, record reply { body = take k filled }) in
          let here : look done expected at (ended line ++ filled) ≡ On (done ++ entry (length body) ∷ []) Between (next + suc (length body)) [] =
          look-line done expected at line filled plain
          ∙ ap (look_step done at next filled) steps
          ∙ ap (λ k. look_body done at next filled link reply k) (sym sized)
          ∙ cond-true (is_lf_at filled (length body)) (On (done ++ entry (length body) ∷ []) Between (next + suc (length body)) (drop (suc (length body)) filled)) (Answer (Err at)) (lf_behind body [])
          ∙ ap (On (done ++ entry (length body) ∷ []) Between (next + suc (length body))) (drop_line body [] 10) in
          let P : List ℕ → Type 0 = λ bs. Reads done expected at bs (Err (next + suc (length body))) in
          (Err (next + suc (length body)), subst P (sym whole) (reads_on here (reads_end refl)), λ same. (let e : next + suc (length body) ≡ at = cc in omega arith)),
    )

size_goes : (done : List Entry) (link part : List ℕ) (reply : Reply) (more digits : List ℕ) (n : ℕ) → codes "body " ++ digits ≡ part ++ more → number_of digits ≡ Some n → CanGrow done (Headed link reply) part
size_goes done link part reply more digits n line writes =
    let P : List ℕ → Type 0 = λ bs. is_plain bs ≡ true in
    let Q : List ℕ → Type 0 = λ bs. step done (Headed link reply) bs ≡ Body link reply n in
    body_grows_to done link (Headed link reply) reply part more n
    (subst P line (plain_from is_digit digit_other digits (digits_of digits n writes)))
    (subst Q line (ap (λ o. with_field link reply (option_map Size o)) writes))

size_rest_goes : (done : List Entry) (link part digits : List ℕ) (reply : Reply) → part ≡ codes "body " ++ digits → number_begins digits ≡ true → CanGrow done (Headed link reply) part
size_rest_goes done link part [] reply is passed = size_goes done link part reply (codes "0") (codes "0") 0 (ap (λ bs. bs ++ codes "0") (sym is)) refl
size_rest_goes done link part (d ∷ digits) reply is passed =
    let text = d ∷ digits in
    let number : is_number text ≡ true =
    elim (or_cases (length text == 0) (is_number text) passed) [
      | inl empty ↦ absurd (let some_ = some_bytes (length digits) in grind (arith, nat_tests, empty, some_))
      | inr holds ↦ holds
    ] in
    size_goes done link part reply [] text (digits_value 10 text) (sym is ∙ sym (append-nil part)) (cond-true (is_number text) (Some (digits_value 10 text)) None number)

size_found_goes : (done : List Entry) (link part : List ℕ) (reply : Reply) (b : Option (List ℕ)) → behind (codes "body ") part ≡ b → rest_grows number_begins b ≡ true → CanGrow done (Headed link reply) part
size_found_goes done link part reply None is passed = absurd cc
size_found_goes done link part reply (Some digits) is passed = size_rest_goes done link part digits reply (behind_is (codes "body ") part digits is) passed

size_all_goes : (done : List Entry) (link part : List ℕ) (reply : Reply) (b : Option (List ℕ)) → behind (codes "body ") part ≡ b → (begins (codes "body ") part || rest_grows number_begins b) ≡ true → CanGrow done (Headed link reply) part
size_all_goes done link part reply b is goes =
    elim (or_cases (begins (codes "body ") part) (rest_grows number_begins b) goes) [
      | inl begun ↦
          let word = codes "body " in
          size_goes done link part reply (drop (length part) word ++ codes "0") (codes "0") 0 (ap (λ bs. bs ++ codes "0") (begins_is word part begun) ∙ append_assoc part (drop (length part) word) (codes "0")) refl
      | inr passed ↦ size_found_goes done link part reply b is passed
    ]

field_goes : (done : List Entry) (link part : List ℕ) (reply : Reply) → field_grows reply part ≡ true → CanGrow done (Headed link reply) part
field_goes done link part reply goes =
    let located = is_none reply.location in
    let coded = is_none reply.coding && located in
    let typed = is_none reply.media && coded in
    let type_part = word_grows value_begins (codes "type ") part in
    let coding_part = word_grows value_begins (codes "coding ") part in
    let location_part = word_grows value_begins (codes "location ") part in
    let body_part = word_grows number_begins (codes "body ") part in
    elim (or_cases (typed && type_part) ((coded && coding_part) || ((located && location_part) || body_part)) goes) [
      | inl first ↦
          let both = and_parts typed type_part first in
          value_goes done link part (codes "type ") reply (λ v. record reply { media = Some v }) refl
          (λ v valid. ap (with_field link reply) (field-type v valid) ∙ cond-true typed (Next (Headed link (record reply { media = Some v }))) Misfit both.0)
          (behind (codes "type ") part) refl both.1
      | inr later ↦ elim (or_cases (coded && coding_part) ((located && location_part) || body_part) later) [
        | inl second ↦
            let both = and_parts coded coding_part second in
            value_goes done link part (codes "coding ") reply (λ v. record reply { coding = Some v }) refl
            (λ v valid. ap (with_field link reply) (field-coding v valid) ∙ cond-true coded (Next (Headed link (record reply { coding = Some v }))) Misfit both.0)
            (behind (codes "coding ") part) refl both.1
        | inr last ↦ elim (or_cases (located && location_part) body_part last) [
          | inl third ↦
              let both = and_parts located location_part third in
              value_goes done link part (codes "location ") reply (λ v. record reply { location = Some v }) refl
              (λ v valid. ap (with_field link reply) (field-location v valid) ∙ cond-true located (Next (Headed link (record reply { location = Some v }))) Misfit both.0)
              (behind (codes "location ") part) refl both.1
          | inr sized ↦ size_all_goes done link part reply (behind (codes "body ") part) refl sized
        ]
      ]
    ]

pub field_tells : (done : List Entry) (link part : List ℕ) (reply : Reply) → Tells done (Headed link reply) part (field_grows reply part)
field_tells done link part reply = tells done (Headed link reply) part (field_grows reply part) (field_goes done link part reply) (field_stays done link part reply)

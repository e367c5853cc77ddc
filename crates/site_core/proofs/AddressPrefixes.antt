-- How a part of an IPv6 address, as a URL writes it, goes on to a whole one (URL Standard, section 3.5; RFC 5952, section 4).
use Rattle.std.proofs.Common.{◌≡◌, ◌≢◌, ℕ, zero, suc, ◌+◌, ◌-◌, ◌/◌, ◌%◌, ◌^◌, ◌<◌, ◌≤◌, true, false, List, [], ◌∷◌, ◌++◌, length, take, drop, replicate, flat_map, refl, sym, ap, ◌∙◌, subst, inl, inr, arith, lit<, append-nil, append_assoc, length-append, take_at, drop_at}
use Rattle.std.specs.Prelude.{codes, ◌⊎◌, ◌==◌, nat_le, nat_lt}
use Rattle.std.specs.Char.{digit_char}
use Rattle.std.specs.Net.Text.{hex, groups_text, zero_run, longest_zero_run, compressed_text, hex_groups_text}
use Rattle.std.proofs.NetLemmas.Texts.{AllSegments}
use Rattle.std.proofs.lemmas.Bool.{cases_lt, cases_eq, cond-true, cond-false, lt-leb, le-leb, ne_eqb, eq-eqb}
use Rattle.std.proofs.lemmas.Bool.Decides.{nat_tests}
use Rattle.std.proofs.lemmas.List.{length-replicate}
use Rattle.std.proofs.lemmas.Grind.{flat_map-append}
use Rattle.site_core.specs.Growth.{endings}
use Rattle.site_core.proofs.Cuts.{division, unsnoc}

-- ---- one group

hex_digit : (n : ℕ) → n < 16 → hex n ≡ digit_char (n % 16) ∷ []
unfolding hex
hex_digit n small = rw (lt-leb 0x1000 n (omega arith), lt-leb 0x100 n (omega arith), lt-leb 0x10 n (omega arith)) refl

hex_step : (n : ℕ) → 16 ≤ n → n < 2 ^ 16 → hex n ≡ hex (n / 16) ++ digit_char (n % 16) ∷ []
unfolding hex
hex_step n more fits =
    let m = n / 16 in
    let top : m / 0x1000 ≡ 0 = omega arith in
    let third : m / 0x100 % 16 ≡ n / 0x1000 = omega arith in
    let second : m / 0x10 % 16 ≡ n / 0x100 % 16 = omega arith in
    let first : m % 16 ≡ n / 0x10 % 16 = omega arith in
    let none : nat_le 0x1000 m ≡ false = lt-leb 0x1000 m (omega arith) in
    elim (cases_lt n 0x1000) [
      | inr four ↦ rw (le-leb 0x1000 n four, none, le-leb 0x100 m (omega arith)) (λ i. digit_char (sym third i) ∷ digit_char (sym second i) ∷ digit_char (sym first i) ∷ digit_char (n % 16) ∷ [])
      | inl h₃ ↦ elim (cases_lt n 0x100) [
        | inr three ↦ rw (lt-leb 0x1000 n h₃, le-leb 0x100 n three, none, lt-leb 0x100 m (omega arith), le-leb 0x10 m (omega arith)) (λ i. digit_char (sym second i) ∷ digit_char (sym first i) ∷ digit_char (n % 16) ∷ [])
        | inl h₂ ↦ rw (lt-leb 0x1000 n h₃, lt-leb 0x100 n h₂, le-leb 0x10 n more, none, lt-leb 0x100 m (omega arith), lt-leb 0x10 m (omega arith)) (λ i. digit_char (sym first i) ∷ digit_char (n % 16) ∷ [])
      ]
    ]

-- nothing, or the text of a group that is zero only where the whole is
abbrev IsGroupPart : ℕ → List ℕ → Type 0
IsGroupPart n d = (d ≡ []) ⊎ ((y : ℕ) × (y < 2 ^ 16) × (y ≡ 0 → n ≡ 0) × (d ≡ hex y))

whole_group : (n : ℕ) (d c : List ℕ) → n < 2 ^ 16 → d ++ c ≡ hex n → c ≡ [] → IsGroupPart n d
whole_group n d c fits e none = inr (n, fits, λ z. z, sym (append-nil d) ∙ ap (λ bs. d ++ bs) (sym none) ∙ e)

nothing_before : (d e : List ℕ) → d ++ e ≡ [] → d ≡ []
nothing_before [] e h = refl
nothing_before (x ∷ d) e h = absurd cc

digit_group : (n : ℕ) (d c : List ℕ) → n < 16 → d ++ c ≡ hex n → IsGroupPart n d
digit_group n d c digit e =
    elim (unsnoc d c [] (digit_char (n % 16)) (e ∙ hex_digit n digit)) [
      | inl none ↦ whole_group n d c (omega arith) e none
      | inr h ↦ inl (nothing_before d h.0 h.1)
    ]

group_part : (k n : ℕ) (d c : List ℕ) → n ≤ k → n < 2 ^ 16 → d ++ c ≡ hex n → IsGroupPart n d
group_part zero n d c most fits e = digit_group n d c (omega arith) e
group_part (suc k) n d c most fits e =
    elim (cases_lt n 16) [
      | inl digit ↦ digit_group n d c digit e
      | inr more ↦
          elim (unsnoc d c (hex (n / 16)) (digit_char (n % 16)) (e ∙ hex_step n more fits)) [
            | inl none ↦ whole_group n d c fits e none
            | inr h ↦
                elim (group_part k (n / 16) d h.0 (omega arith) (omega arith) h.1) [
                  | inl none ↦ inl none
                  | inr part ↦ inr (part.0, part.1, λ z. absurd (let none : n / 16 ≡ 0 = part.2 z in omega arith), part.3)
                ]
          ]
    ]

-- ---- groups, and which of them are zero

-- the groups stand for others, which begin so, and none is zero where the other isn't
abbrev Below : List ℕ → List ℕ → Type 0
Below [] xs = Unit {0}
Below (y ∷ ys) [] = ⊥
Below (y ∷ ys) (x ∷ xs) = (y < 2 ^ 16) × (y ≡ 0 → x ≡ 0) × Below ys xs

-- each has 16 bits
abbrev Small : List ℕ → Type 0
Small [] = Unit {0}
Small (x ∷ xs) = (x < 2 ^ 16) × Small xs

small_all : (xs : List ℕ) → Small xs → AllSegments xs
small_all [] h k = lit< tt
small_all (x ∷ xs) h zero = h.0
small_all (x ∷ xs) h (suc k) = small_all xs h.1 k

all_small : (xs : List ℕ) → AllSegments xs → Small xs
all_small [] h = tt
all_small (x ∷ xs) h = (h 0, all_small xs (λ k. h (suc k)))

small_append : (xs ys : List ℕ) → Small xs → Small ys → Small (xs ++ ys)
small_append [] ys h k = k
small_append (x ∷ xs) ys h k = (h.0, small_append xs ys h.1 k)

small_front : (xs ys : List ℕ) → Small (xs ++ ys) → Small xs
small_front [] ys h = tt
small_front (x ∷ xs) ys h = (h.0, small_front xs ys h.1)

small_back : (xs ys : List ℕ) → Small (xs ++ ys) → Small ys
small_back [] ys h = h
small_back (x ∷ xs) ys h = small_back xs ys h.1

small_zeros : (n : ℕ) → Small (replicate n 0)
small_zeros zero = tt
small_zeros (suc n) = (lit< tt, small_zeros n)

abbrev one : List ℕ
one = 1 ∷ []

below_small : (ys xs : List ℕ) → Below ys xs → Small ys
below_small [] xs h = tt
below_small (y ∷ ys) [] h = absurd h
below_small (y ∷ ys) (x ∷ xs) h = (h.0, below_small ys xs h.2)

below_length : (ys xs : List ℕ) → Below ys xs → length ys ≤ length xs
below_length [] xs h = omega arith
below_length (y ∷ ys) [] h = absurd h
below_length (y ∷ ys) (x ∷ xs) h = omega (arith, below_length ys xs h.2)

below_same : (xs : List ℕ) → Small xs → Below xs xs
below_same [] h = tt
below_same (x ∷ xs) h = (h.0, λ z. z, below_same xs h.1)

below_push : (ys xs : List ℕ) → Below ys xs → length ys < length xs → Below (ys ++ one) xs
below_push [] [] h less = absurd (omega arith)
below_push [] (x ∷ xs) h less = (lit< tt, λ z. absurd (omega arith), tt)
below_push (y ∷ ys) [] h less = absurd h
below_push (y ∷ ys) (x ∷ xs) h less = (h.0, h.1, below_push ys xs h.2 (omega arith))

abbrev most : List ℕ → ℕ
most xs = (longest_zero_run xs).1

abbrev last_or : ℕ → List ℕ → ℕ
last_or d [] = d
last_or d (x ∷ xs) = last_or x xs

below_last : (d e : ℕ) (ys xs : List ℕ) → (d ≡ 0 → e ≡ 0) → Below ys xs → length ys ≡ length xs → last_or e xs ≢ 0 → last_or d ys ≢ 0
below_last d e [] [] none h same other = λ z. other (none z)
below_last d e [] (x ∷ xs) none h same other = absurd (omega arith)
below_last d e (y ∷ ys) [] none h same other = absurd h
below_last d e (y ∷ ys) (x ∷ xs) none h same other = below_last y x ys xs h.1 h.2 (omega arith) other

last_one : (d : ℕ) (ys : List ℕ) → last_or d (ys ++ one) ≡ 1
last_one d [] = refl
last_one d (y ∷ ys) = last_one y ys

abbrev first : List ℕ → ℕ
first [] = 1
first (x ∷ xs) = x

below_first : (ys xs : List ℕ) → Below ys xs → first xs ≢ 0 → first ys ≢ 0
below_first [] xs h other = λ z. omega arith
below_first (y ∷ ys) [] h other = absurd h
below_first (y ∷ ys) (x ∷ xs) h other = λ z. other (h.1 z)

-- ---- runs of zeros

run_zero : (x : ℕ) (xs : List ℕ) → x ≡ 0 → zero_run (x ∷ xs) ≡ suc (zero_run xs)
run_zero x xs zero_ = cond-true (x == 0) (1 + zero_run xs) 0 (eq-eqb x 0 zero_) ∙ omega arith

run_other : (x : ℕ) (xs : List ℕ) → x ≢ 0 → zero_run (x ∷ xs) ≡ 0
run_other x xs other = cond-false (x == 0) (1 + zero_run xs) 0 (ne_eqb x 0 other)

-- the longest run of one more group
most_cases : (x : ℕ) (xs : List ℕ) → ((most xs ≤ zero_run (x ∷ xs)) × (longest_zero_run (x ∷ xs) ≡ (0, zero_run (x ∷ xs)))) ⊎ ((zero_run (x ∷ xs) < most xs) × (longest_zero_run (x ∷ xs) ≡ ((longest_zero_run xs).0 + 1, most xs)))
most_cases x xs =
    let run = zero_run (x ∷ xs) in
    elim (cases_lt run (most xs)) [
      | inl less ↦ inr (less, cond-false (nat_le (most xs) run) (0, run) ((longest_zero_run xs).0 + 1, most xs) (lt-leb (most xs) run less))
      | inr more ↦ inl (more, cond-true (nat_le (most xs) run) (0, run) ((longest_zero_run xs).0 + 1, most xs) (le-leb (most xs) run more))
    ]

most_least : (x : ℕ) (xs : List ℕ) → (most xs ≤ most (x ∷ xs)) × (zero_run (x ∷ xs) ≤ most (x ∷ xs))
most_least x xs =
    elim (most_cases x xs) [
      | inl h ↦ (let e = ap (λ (p : ℕ × ℕ). p.1) h.1 in (omega (arith, h.0, e), omega (arith, e)))
      | inr h ↦ (let e = ap (λ (p : ℕ × ℕ). p.1) h.1 in (omega (arith, e), omega (arith, h.0, e)))
    ]

most_below : (n x : ℕ) (xs : List ℕ) → most xs ≤ n → zero_run (x ∷ xs) ≤ n → most (x ∷ xs) ≤ n
most_below n x xs h k =
    elim (most_cases x xs) [
      | inl c ↦ (let e = ap (λ (p : ℕ × ℕ). p.1) c.1 in omega (arith, k, e))
      | inr c ↦ (let e = ap (λ (p : ℕ × ℕ). p.1) c.1 in omega (arith, h, e))
    ]

below_run : (ys xs : List ℕ) → Below ys xs → zero_run ys ≤ zero_run xs
below_run [] xs h = omega arith
below_run (y ∷ ys) [] h = absurd h
below_run (y ∷ ys) (x ∷ xs) h =
    elim (cases_eq y 0) [
      | inl z ↦ omega (arith, run_zero y ys z, run_zero x xs (h.1 z), below_run ys xs h.2)
      | inr other ↦ omega (arith, run_other y ys other)
    ]

below_most : (ys xs : List ℕ) → Below ys xs → most ys ≤ most xs
below_most [] xs h = omega arith
below_most (y ∷ ys) [] h = absurd h
below_most (y ∷ ys) (x ∷ xs) h =
    let least = most_least x xs in
    most_below (most (x ∷ xs)) y ys (omega (arith, least.0, below_most ys xs h.2)) (omega (arith, least.1, below_run (y ∷ ys) (x ∷ xs) h))

-- a run of zeros between two lists of groups is the longest, and the first of that length
pub record IsRun (front : List ℕ) (k : ℕ) (back : List ℕ) : Type 0 where
  pub ends : last_or 1 front ≢ 0
  pub begins : first back ≢ 0
  pub before : most front < k
  pub behind : most back ≤ k

abbrev around : List ℕ → ℕ → List ℕ → List ℕ
around front k back = front ++ (replicate k 0 ++ back)

zeros_run : (k : ℕ) (back : List ℕ) → first back ≢ 0 → zero_run (replicate k 0 ++ back) ≡ k
zeros_run zero [] other = refl
zeros_run zero (b ∷ back) other = run_other b back other
zeros_run (suc k) back other = run_zero 0 (replicate k 0 ++ back) refl ∙ ap suc (zeros_run k back other)

zeros_most : (k n : ℕ) (back : List ℕ) → first back ≢ 0 → k ≤ n → most back ≤ n → most (replicate k 0 ++ back) ≤ n
zeros_most zero n back other small behind = behind
zeros_most (suc k) n back other small behind = most_below n 0 (replicate k 0 ++ back) (zeros_most k n back other (omega arith) behind) (omega (arith, zeros_run (suc k) back other))

zeros_longest : (k : ℕ) (back : List ℕ) → 0 < k → first back ≢ 0 → most back ≤ k → longest_zero_run (replicate k 0 ++ back) ≡ (0, k)
zeros_longest zero back some other behind = absurd (omega arith)
zeros_longest (suc k) back some other behind =
    let run = zeros_run (suc k) back other in
    let later = zeros_most k (suc k) back other (omega arith) behind in
    elim (most_cases 0 (replicate k 0 ++ back)) [
      | inl h ↦ h.1 ∙ ap (λ n. (0, n)) run
      | inr h ↦ absurd (omega (arith, h.0, run, later))
    ]

-- a run that ends within the list is there whatever follows
inner_run : (d : ℕ) (xs ys : List ℕ) → 0 < length xs → last_or d xs ≢ 0 → zero_run (xs ++ ys) ≡ zero_run xs
inner_run d [] ys some other = absurd (omega arith)
inner_run d (x ∷ []) ys some other = run_other x ys other ∙ sym (run_other x [] other)
inner_run d (x ∷ z ∷ xs) ys some other =
    elim (cases_eq x 0) [
      | inl none ↦ run_zero x (z ∷ (xs ++ ys)) none ∙ ap suc (inner_run x (z ∷ xs) ys (omega arith) other) ∙ sym (run_zero x (z ∷ xs) none)
      | inr more ↦ run_other x (z ∷ (xs ++ ys)) more ∙ sym (run_other x (z ∷ xs) more)
    ]

longest_around : (front : List ℕ) (k : ℕ) (back : List ℕ) → IsRun front k back → 0 < k → longest_zero_run (around front k back) ≡ (length front, k)
longest_around [] k back run some = zeros_longest k back some run.begins run.behind
longest_around (x ∷ front) k back run some =
    let rest = around front k back in
    let least = most_least x front in
    let before = run.before in
    let ends : last_or 1 front ≢ 0 = inner front run.ends in
    let later = longest_around front k back (record { ends = ends; begins = run.begins; before = omega (arith, least.0, before); behind = run.behind }) some in
    let most_is : most rest ≡ k = ap (λ (p : ℕ × ℕ). p.1) later in
    let here : zero_run (x ∷ rest) ≡ zero_run (x ∷ front) = inner_run 1 (x ∷ front) (replicate k 0 ++ back) (omega arith) run.ends in
    elim (most_cases x rest) [
      | inl h ↦ absurd (omega (arith, h.0, most_is, here, least.1, before))
      | inr h ↦ h.1 ∙ (λ i. ((later i).0 + 1, most_is i)) ∙ ap (λ n. (n, k)) (omega arith)
    ]
  where
    inner : (front : List ℕ) → last_or x front ≢ 0 → last_or 1 front ≢ 0
    inner [] other = λ z. omega arith
    inner (y ∷ front) other = other

-- the text with the run left out
compressed_around : (front : List ℕ) (k : ℕ) (back : List ℕ) → IsRun front k back → 1 < k → hex_groups_text (around front k back) ≡ groups_text front ++ (codes "::" ++ groups_text back)
unfolding hex_groups_text
compressed_around front k back run some =
    let xs = around front k back in
    let two : nat_lt 1 k ≡ true = grind (arith, nat_tests) in
    let cut : drop (length front + k) xs ≡ back = ap (drop (length front + k)) (sym (append_assoc front (replicate k 0) back)) ∙ drop_at (front ++ replicate k 0) back _ (omega (arith, length-append front (replicate k 0), length-replicate {A = ℕ} k 0)) in
    ap (compressed_text xs) (longest_around front k back run (omega arith))
    ∙ cond-true (nat_lt 1 k) ((groups_text (take (length front) xs) ++ codes "::") ++ groups_text (drop (length front + k) xs)) (groups_text xs) two
    ∙ (λ i. (groups_text (take_at front (replicate k 0 ++ back) _ refl i) ++ codes "::") ++ groups_text (cut i))
    ∙ append_assoc (groups_text front) (codes "::") (groups_text back)

-- the text with no run left out
plain_text : (xs : List ℕ) → most xs ≤ 1 → hex_groups_text xs ≡ groups_text xs
unfolding hex_groups_text
plain_text xs short = cond-false (nat_lt 1 (most xs)) _ (groups_text xs) (grind (arith, nat_tests))

-- the groups in front of the longest run and behind it
pub record Around (xs : List ℕ) : Type 0 where
  pub front : List ℕ
  pub back : List ℕ
  pub whole : xs ≡ around front (most xs) back
  pub run : IsRun front (most xs) back

most_drop : (n : ℕ) (xs : List ℕ) → most (drop n xs) ≤ most xs
most_drop zero xs = omega arith
most_drop (suc n) [] = omega arith
most_drop (suc n) (x ∷ xs) = omega (arith, most_drop n xs, (most_least x xs).0)

leading : (xs : List ℕ) → (xs ≡ replicate (zero_run xs) 0 ++ drop (zero_run xs) xs) × (first (drop (zero_run xs) xs) ≢ 0)
leading [] = (refl, λ z. omega arith)
leading (x ∷ xs) =
    let P : ℕ → Type 0 = λ n. (x ∷ xs ≡ replicate n 0 ++ drop n (x ∷ xs)) × (first (drop n (x ∷ xs)) ≢ 0) in
    elim (cases_eq x 0) [
      | inl none ↦ (let later = leading xs in subst P (sym (run_zero x xs none)) ((λ i. none i ∷ later.0 i), later.1))
      | inr other ↦ subst P (sym (run_other x xs other)) (refl, other)
    ]

front_run : (xs ys : List ℕ) → zero_run xs ≤ zero_run (xs ++ ys)
front_run [] ys = omega arith
front_run (x ∷ xs) ys =
    elim (cases_eq x 0) [
      | inl none ↦ omega (arith, run_zero x xs none, run_zero x (xs ++ ys) none, front_run xs ys)
      | inr other ↦ omega (arith, run_other x xs other)
    ]

around_longest : (xs : List ℕ) → 0 < most xs → Around xs
around_longest [] some = absurd (omega arith)
around_longest (x ∷ xs) some =
    elim (most_cases x xs) [
      | inl h ↦ here (zero_run (x ∷ xs)) (ap (λ (p : ℕ × ℕ). p.1) h.1) h.0 (leading (x ∷ xs))
      | inr h ↦ later (ap (λ (p : ℕ × ℕ). p.1) h.1) h.0 (around_longest xs (omega (arith, h.0)))
    ]
  where
    here : (k : ℕ) → most (x ∷ xs) ≡ k → most xs ≤ k → (x ∷ xs ≡ replicate k 0 ++ drop k (x ∷ xs)) × (first (drop k (x ∷ xs)) ≢ 0) → Around (x ∷ xs)
    here zero is less parts = absurd (omega arith)
    here (suc k) is less parts =
        let back = drop k xs in
        let run : IsRun [] (suc k) back = record { ends = λ z. omega arith; begins = parts.1; before = omega arith; behind = omega (arith, most_drop k xs, less) } in
        record {
          front = [];
          back = back;
          whole = parts.0 ∙ ap (λ n. around [] n back) (sym is);
          run = subst (λ n. IsRun [] n back) (sym is) run;
        }

    later : most (x ∷ xs) ≡ most xs → zero_run (x ∷ xs) < most xs → Around xs → Around (x ∷ xs)
    later is less a =
        let front = a.front in
        let k = most xs in
        let old = a.run in
        let behind = replicate k 0 ++ a.back in
        let begun : zero_run (x ∷ front) ≤ zero_run (x ∷ xs) = subst (λ (l : List ℕ). zero_run (x ∷ front) ≤ zero_run (x ∷ l)) (sym a.whole) (front_run (x ∷ front) behind) in
        let before = old.before in
        let new : IsRun (x ∷ front) k a.back = record {
          ends = last front old.ends a.whole;
          begins = old.begins;
          before = (let top = most_below (k - 1) x front (omega arith) (omega (arith, begun, less)) in omega (arith, top, less));
          behind = old.behind;
        } in
        record {
          front = x ∷ front;
          back = a.back;
          whole = ap (λ l. x ∷ l) a.whole ∙ ap (λ n. around (x ∷ front) n a.back) (sym is);
          run = subst (λ n. IsRun (x ∷ front) n a.back) (sym is) new;
        }
      where
        last : (front : List ℕ) → last_or 1 front ≢ 0 → xs ≡ around front (most xs) a.back → last_or x front ≢ 0
        last (y ∷ front) ends whole = ends
        last [] ends whole = λ z.
            let full = zeros_run (most xs) a.back a.run.begins in
            let same : zero_run xs ≡ most xs = ap zero_run whole ∙ full in
            omega (arith, less, run_zero x xs z, same)

-- ---- a part of the groups

abbrev tail_text : List ℕ → List ℕ
tail_text xs = flat_map (λ t. codes ":" ++ hex t) xs

-- the part ends with a group, or with the colon behind one
abbrev IsTailPart : List ℕ → List ℕ → Type 0
IsTailPart xs d = ((ys : List ℕ) × Below ys xs × (d ≡ tail_text ys)) ⊎ ((ys : List ℕ) × Below (ys ++ one) xs × (d ≡ tail_text ys ++ codes ":"))

tail_part : (xs d c : List ℕ) → Small xs → d ++ c ≡ tail_text xs → IsTailPart xs d
tail_part xs [] c small e = inl ([], tt, refl)
tail_part [] (b ∷ d) c small e = absurd cc
tail_part (x ∷ xs) (b ∷ d) c small e =
    let head : b ≡ 58 = cc in
    let rest : d ++ c ≡ hex x ++ tail_text xs = cc in
    elim (division d c (hex x) (tail_text xs) rest) [
      | inl h ↦ behind head h.0 h.1 (tail_part xs h.0 c small.1 h.2)
      | inr h ↦ within head h.0 (group_part x x d h.0 (omega arith) small.0 (sym h.1))
    ]
  where
    behind : b ≡ 58 → (e : List ℕ) → d ≡ hex x ++ e → IsTailPart xs e → IsTailPart (x ∷ xs) (b ∷ d)
    behind head e is (inl h) = inl (x ∷ h.0, (small.0, λ z. z, h.1), (λ i. head i ∷ (is ∙ ap (λ bs. hex x ++ bs) h.2) i))
    behind head e is (inr h) = inr (x ∷ h.0, (small.0, λ z. z, h.1), (λ i. head i ∷ (is ∙ ap (λ bs. hex x ++ bs) h.2 ∙ sym (append_assoc (hex x) (tail_text h.0) (codes ":"))) i))

    within : b ≡ 58 → (e : List ℕ) → IsGroupPart x d → IsTailPart (x ∷ xs) (b ∷ d)
    within head e (inl none) = inr ([], (lit< tt, λ z. absurd (omega arith), tt), (λ i. head i ∷ none i))
    within head e (inr h) = inl (h.0 ∷ [], (h.1, h.2, tt), (λ i. head i ∷ (h.3 ∙ sym (append-nil (hex h.0))) i))

abbrev IsPart : List ℕ → List ℕ → Type 0
IsPart xs d = ((ys : List ℕ) × Below ys xs × (d ≡ groups_text ys)) ⊎ ((ys : List ℕ) × Below (ys ++ one) xs × (0 < length ys) × (d ≡ groups_text ys ++ codes ":"))

groups_part : (xs d c : List ℕ) → Small xs → d ++ c ≡ groups_text xs → IsPart xs d
groups_part [] d c small e = inl ([], tt, nothing_before d c e)
groups_part (x ∷ xs) d c small e =
    elim (division d c (hex x) (tail_text xs) e) [
      | inl h ↦ behind h.0 h.1 (tail_part xs h.0 c small.1 h.2)
      | inr h ↦ within (group_part x x d h.0 (omega arith) small.0 (sym h.1))
    ]
  where
    behind : (e : List ℕ) → d ≡ hex x ++ e → IsTailPart xs e → IsPart (x ∷ xs) d
    behind e is (inl h) = inl (x ∷ h.0, (small.0, λ z. z, h.1), is ∙ ap (λ bs. hex x ++ bs) h.2)
    behind e is (inr h) = inr (x ∷ h.0, (small.0, λ z. z, h.1), omega arith, is ∙ ap (λ bs. hex x ++ bs) h.2 ∙ sym (append_assoc (hex x) (tail_text h.0) (codes ":")))

    within : IsGroupPart x d → IsPart (x ∷ xs) d
    within (inl none) = inl ([], tt, none)
    within (inr h) = inl (h.0 ∷ [], (h.1, h.2, tt), h.3 ∙ sym (append-nil (hex h.0)))

-- ---- the endings

abbrev pub IsOne : List (List ℕ) → List ℕ → Type 0
IsOne [] e = ⊥
IsOne (x ∷ xs) e = (x ≡ e) ⊎ IsOne xs e

abbrev pub IsEnding : List ℕ → Type 0
IsEnding e = IsOne endings e

close : IsEnding (codes "]/")
close = inr (inr (inr (inr (inl refl))))

one_close : IsEnding (codes "1]/")
one_close = inr (inr (inr (inr (inr (inl refl)))))

colon_close : IsEnding (codes ":]/")
colon_close = inr (inr (inr (inr (inr (inr (inl refl))))))

run_close : IsEnding (codes "::]/")
run_close = inr (inr (inr (inr (inr (inr (inr (inl refl)))))))

colon_one_run_close : IsEnding (codes ":1::]/")
colon_one_run_close = inr (inr (inr (inr (inr (inr (inr (inr (inl refl))))))))

one_run_close : IsEnding (codes "1::]/")
one_run_close = inr (inr (inr (inr (inr (inr (inr (inr (inr (inl refl)))))))))

colon_ones_close : IsEnding (codes ":1:1]/")
colon_ones_close = inr (inr (inr (inr (inr (inr (inr (inr (inr (inr (inl refl))))))))))

ones_close : IsEnding (codes "1:1]/")
ones_close = inr (inr (inr (inr (inr (inr (inr (inr (inr (inr (inr (inl refl)))))))))))

colon_one_close : IsEnding (codes ":1]/")
colon_one_close = inr (inr (inr (inr (inr (inr (inr (inr (inr (inr (inr (inr (inl refl))))))))))))

-- with one of the endings the part is an address in brackets, but for the first of them
pub record Closes (p : List ℕ) : Type 0 where
  pub ending : List ℕ
  pub is_ending : IsEnding (ending ++ codes "/")
  pub segments : List ℕ
  pub eight : length segments ≡ 8
  pub small : AllSegments segments
  pub closed : p ++ ending ≡ hex_groups_text segments ++ codes "]"

closes_run : (front back p e : List ℕ) → Small front → Small back → length front + length back ≤ 6 → IsRun front (8 - length front - length back) back → p ++ e ≡ (groups_text front ++ (codes "::" ++ groups_text back)) ++ codes "]" → IsEnding (e ++ codes "/") → Closes p
closes_run front back p e small_f small_b room run is ending =
    let k = 8 - length front - length back in
    record {
      ending = e;
      is_ending = ending;
      segments = around front k back;
      eight = omega (arith, length-append front (replicate k 0 ++ back), length-append (replicate k 0) back, length-replicate {A = ℕ} k 0, room);
      small = small_all (around front k back) (small_append front (replicate k 0 ++ back) small_f (small_append (replicate k 0) back (small_zeros k) small_b));
      closed = is ∙ ap (λ bs. bs ++ codes "]") (sym (compressed_around front k back run (omega arith)));
    }

closes_plain : (xs p e : List ℕ) → Small xs → length xs ≡ 8 → most xs ≤ 1 → p ++ e ≡ groups_text xs ++ codes "]" → IsEnding (e ++ codes "/") → Closes p
closes_plain xs p e small eight short is ending = record {
  ending = e;
  is_ending = ending;
  segments = xs;
  eight = eight;
  small = small_all xs small;
  closed = is ∙ ap (λ bs. bs ++ codes "]") (sym (plain_text xs short));
}

push_text : (y : ℕ) (ys : List ℕ) → groups_text ((y ∷ ys) ++ one) ≡ groups_text (y ∷ ys) ++ codes ":1"
unfolding hex
push_text y ys = ap (λ bs. hex y ++ bs) (flat_map-append (λ t. codes ":" ++ hex t) ys one) ∙ sym (append_assoc (hex y) (tail_text ys) (codes ":1"))

one_text : groups_text one ≡ codes "1"
unfolding hex
one_text = refl

-- the part's last group, with what the ending adds to it
abbrev Reaches : List ℕ → List ℕ → List ℕ → Type 0
Reaches p added ys = p ++ added ≡ groups_text ys

reached : (p added e ys : List ℕ) → Reaches p added ys → p ++ (added ++ e) ≡ groups_text ys ++ e
reached p added e ys is = sym (append_assoc p added e) ∙ ap (λ bs. bs ++ e) is

reaches_colon : (ys p : List ℕ) → 0 < length ys → p ≡ groups_text ys ++ codes ":" → Reaches p (codes "1") (ys ++ one)
reaches_colon [] p some is = absurd (omega arith)
reaches_colon (y ∷ ys) p some is = ap (λ bs. bs ++ codes "1") is ∙ append_assoc (groups_text (y ∷ ys)) (codes ":") (codes "1") ∙ sym (push_text y ys)

-- ---- the run is left out

abbrev IsHole : List ℕ → ℕ → List ℕ → Type 0
IsHole front k back = (1 < k) × (length front + (k + length back) ≡ 8)

run_in_front : (front : List ℕ) (k : ℕ) (back ys : List ℕ) → IsHole front k back → IsRun front k back → Below ys front → last_or 1 ys ≢ 0 → IsRun ys (8 - length ys - 0) []
run_in_front front k back ys hole run below ends = record {
  ends = ends;
  begins = λ z. omega arith;
  before = (let before = run.before in omega (arith, before, below_most ys front below, below_length ys front below, hole.0, hole.1));
  behind = omega arith;
}

-- a new group behind those of the part, and then the run
front_grows : (front : List ℕ) (k : ℕ) (back ys p added : List ℕ) → IsHole front k back → IsRun front k back → Below (ys ++ one) front → Reaches p added (ys ++ one) → IsEnding (added ++ codes "::]/") → Closes p
front_grows front k back ys p added hole run below reach ending =
    let new = ys ++ one in
    let e : List ℕ = added ++ codes "::]" in
    closes_run new [] p e (below_small new front below) tt (omega (arith, below_length new front below, hole.0, hole.1))
    (run_in_front front k back new hole run below (λ z. (let same = last_one 1 ys in omega (arith, z, same))))
    (reached p added (codes "::]") new reach ∙ sym (append_assoc (groups_text new) (codes "::") (codes "]")))
    (subst IsEnding (sym (append_assoc added (codes "::]") (codes "/"))) ending)

front_inside : (front : List ℕ) (k : ℕ) (back ys p : List ℕ) → IsHole front k back → IsRun front k back → Below ys front → length ys < length front → p ≡ groups_text ys → Closes p
front_inside front k back [] p hole run below less is =
    front_grows front k back [] p (codes "1") hole run (below_push [] front below less) (ap (λ bs. bs ++ codes "1") is ∙ sym one_text) one_run_close
front_inside front k back (y ∷ ys) p hole run below less is =
    front_grows front k back (y ∷ ys) p (codes ":1") hole run (below_push (y ∷ ys) front below less) (ap (λ bs. bs ++ codes ":1") is ∙ sym (push_text y ys)) colon_one_run_close

front_whole : (front : List ℕ) (k : ℕ) (back ys p : List ℕ) → IsHole front k back → IsRun front k back → Below ys front → length ys ≡ length front → p ≡ groups_text ys → Closes p
front_whole front k back ys p hole run below same is =
    closes_run ys [] p (codes "::]") (below_small ys front below) tt (omega (arith, same, hole.0, hole.1))
    (run_in_front front k back ys hole run below (below_last 1 1 ys front (λ z. z) below same run.ends))
    (ap (λ bs. bs ++ codes "::]") is ∙ sym (append_assoc (groups_text ys) (codes "::") (codes "]")))
    run_close

in_front : (front : List ℕ) (k : ℕ) (back p : List ℕ) → IsHole front k back → IsRun front k back → IsPart front p → Closes p
in_front front k back p hole run (inl h) =
    elim (cases_lt (length h.0) (length front)) [
      | inl less ↦ front_inside front k back h.0 p hole run h.1 less h.2
      | inr more ↦ front_whole front k back h.0 p hole run h.1 (omega (arith, more, below_length h.0 front h.1)) h.2
    ]
in_front front k back p hole run (inr h) = front_grows front k back h.0 p (codes "1") hole run h.1 (reaches_colon h.0 p h.2 h.3) one_run_close

run_behind : (front : List ℕ) (k : ℕ) (back ys : List ℕ) → IsHole front k back → IsRun front k back → Below ys back → IsRun front (8 - length front - length ys) ys
run_behind front k back ys hole run below =
    let before = run.before in
    let behind = run.behind in
    record {
      ends = run.ends;
      begins = below_first ys back below run.begins;
      before = omega (arith, before, below_length ys back below, hole.1);
      behind = omega (arith, behind, below_most ys back below, below_length ys back below, hole.1);
    }

in_back : (front : List ℕ) (k : ℕ) (back p q : List ℕ) → Small front → IsHole front k back → IsRun front k back → p ≡ groups_text front ++ (codes "::" ++ q) → IsPart back q → Closes p
in_back front k back p q small hole run is (inl h) =
    closes_run front h.0 p (codes "]") small (below_small h.0 back h.1) (omega (arith, below_length h.0 back h.1, hole.0, hole.1))
    (run_behind front k back h.0 hole run h.1)
    (ap (λ bs. bs ++ codes "]") (is ∙ ap (λ bs. groups_text front ++ (codes "::" ++ bs)) h.2))
    close
in_back front k back p q small hole run is (inr h) =
    let new = h.0 ++ one in
    let reach = reaches_colon h.0 q h.2 h.3 in
    let text : p ++ codes "1" ≡ groups_text front ++ (codes "::" ++ groups_text new) = ap (λ bs. bs ++ codes "1") is ∙ append_assoc (groups_text front) (codes "::" ++ q) (codes "1") ∙ ap (λ bs. groups_text front ++ (codes "::" ++ bs)) reach in
    closes_run front new p (codes "1]") small (below_small new back h.1) (omega (arith, below_length new back h.1, hole.0, hole.1))
    (run_behind front k back new hole run h.1)
    (sym (append_assoc p (codes "1") (codes "]")) ∙ ap (λ bs. bs ++ codes "]") text)
    one_close

colon_only : (front : List ℕ) (k : ℕ) (back p : List ℕ) → Small front → IsHole front k back → IsRun front k back → p ≡ groups_text front ++ codes ":" → Closes p
colon_only front k back p small hole run is =
    closes_run front [] p (codes ":]") small tt (omega (arith, hole.0, hole.1))
    (run_in_front front k back front hole run (below_same front small) run.ends)
    (ap (λ bs. bs ++ codes ":]") is ∙ append_assoc (groups_text front) (codes ":") (codes ":]") ∙ sym (append_assoc (groups_text front) (codes "::") (codes "]")))
    colon_close

in_run : (front : List ℕ) (k : ℕ) (back p c : List ℕ) → Small front → Small back → IsHole front k back → IsRun front k back → (r : List ℕ) → p ≡ groups_text front ++ r → r ++ c ≡ codes "::" ++ groups_text back → Closes p
in_run front k back p c small_f small_b hole run [] is rest = front_whole front k back front p hole run (below_same front small_f) refl (is ∙ append-nil (groups_text front))
in_run front k back p c small_f small_b hole run (a ∷ []) is rest =
    let head : a ≡ 58 = cc in
    colon_only front k back p small_f hole run (is ∙ (λ i. groups_text front ++ head i ∷ []))
in_run front k back p c small_f small_b hole run (a ∷ b ∷ q) is rest =
    let head : a ≡ 58 = cc in
    let next : b ≡ 58 = cc in
    let tail : q ++ c ≡ groups_text back = cc in
    in_back front k back p q small_f hole run (is ∙ (λ i. groups_text front ++ head i ∷ next i ∷ q)) (groups_part back q c small_b tail)

compressed_part : (front : List ℕ) (k : ℕ) (back p c : List ℕ) → Small front → Small back → IsHole front k back → IsRun front k back → p ++ c ≡ groups_text front ++ (codes "::" ++ groups_text back) → Closes p
compressed_part front k back p c small_f small_b hole run e =
    elim (division p c (groups_text front) (codes "::" ++ groups_text back) e) [
      | inl h ↦ in_run front k back p c small_f small_b hole run h.0 h.1 h.2
      | inr h ↦ in_front front k back p hole run (groups_part front p h.0 small_f (sym h.1))
    ]

-- ---- no run is left out

-- what ends the address behind these groups
abbrev IsFill : List ℕ → Type 0
IsFill r = (r ≡ codes "::]") ⊎ ((r ≡ codes ":1]") ⊎ (r ≡ codes "]"))

filled : (xs ys p added : List ℕ) → length xs ≡ 8 → most xs ≤ 1 → Below (ys ++ one) xs → Reaches p added (ys ++ one) → ((r : List ℕ) → IsFill r → IsEnding ((added ++ r) ++ codes "/")) → Closes p
filled xs ys p added eight short below reach ending =
    let new = ys ++ one in
    let small = below_small new xs below in
    let low = below_most new xs below in
    let long = below_length new xs below in
    elim (cases_lt (length new) 7) [
      | inl six ↦
          closes_run new [] p (added ++ codes "::]") small tt (omega (arith, six))
          (record { ends = λ z. (let same = last_one 1 ys in omega (arith, z, same)); begins = λ z. omega arith; before = omega (arith, six, low, short); behind = omega arith })
          (reached p added (codes "::]") new reach ∙ sym (append_assoc (groups_text new) (codes "::") (codes "]")))
          (ending (codes "::]") (inl refl))
      | inr more ↦
          elim (cases_lt (length new) 8) [
            | inl seven ↦
                let again = below_push new xs below (omega (arith, seven, eight)) in
                closes_plain (new ++ one) p (added ++ codes ":1]") (below_small (new ++ one) xs again) (omega (arith, length-append new one, more, seven)) (omega (arith, below_most (new ++ one) xs again, short))
                (reached p added (codes ":1]") new reach ∙ more_text ys)
                (ending (codes ":1]") (inr (inl refl)))
            | inr all ↦
                closes_plain new p (added ++ codes "]") small (omega (arith, all, long, eight)) (omega (arith, low, short))
                (reached p added (codes "]") new reach)
                (ending (codes "]") (inr (inr refl)))
          ]
    ]
  where
    more_text : (ys : List ℕ) → groups_text (ys ++ one) ++ codes ":1]" ≡ groups_text ((ys ++ one) ++ one) ++ codes "]"
    more_text [] = sym (append_assoc (groups_text one) (codes ":1") (codes "]")) ∙ ap (λ bs. bs ++ codes "]") (sym (push_text 1 []))
    more_text (y ∷ ys) = sym (append_assoc (groups_text ((y ∷ ys) ++ one)) (codes ":1") (codes "]")) ∙ ap (λ bs. bs ++ codes "]") (sym (push_text y (ys ++ one)))

by_one : (r : List ℕ) → IsFill r → IsEnding ((codes "1" ++ r) ++ codes "/")
by_one r (inl is) = subst (λ (s : List ℕ). IsEnding ((codes "1" ++ s) ++ codes "/")) (sym is) one_run_close
by_one r (inr (inl is)) = subst (λ (s : List ℕ). IsEnding ((codes "1" ++ s) ++ codes "/")) (sym is) ones_close
by_one r (inr (inr is)) = subst (λ (s : List ℕ). IsEnding ((codes "1" ++ s) ++ codes "/")) (sym is) one_close

by_colon : (r : List ℕ) → IsFill r → IsEnding ((codes ":1" ++ r) ++ codes "/")
by_colon r (inl is) = subst (λ (s : List ℕ). IsEnding ((codes ":1" ++ s) ++ codes "/")) (sym is) colon_one_run_close
by_colon r (inr (inl is)) = subst (λ (s : List ℕ). IsEnding ((codes ":1" ++ s) ++ codes "/")) (sym is) colon_ones_close
by_colon r (inr (inr is)) = subst (λ (s : List ℕ). IsEnding ((codes ":1" ++ s) ++ codes "/")) (sym is) colon_one_close

plain_inside : (xs ys p : List ℕ) → length xs ≡ 8 → most xs ≤ 1 → Below ys xs → length ys < 8 → p ≡ groups_text ys → Closes p
plain_inside xs [] p eight short below less is = filled xs [] p (codes "1") eight short (below_push [] xs below (omega (arith, eight))) (ap (λ bs. bs ++ codes "1") is ∙ sym one_text) by_one
plain_inside xs (y ∷ ys) p eight short below less is = filled xs (y ∷ ys) p (codes ":1") eight short (below_push (y ∷ ys) xs below (omega (arith, eight, less))) (ap (λ bs. bs ++ codes ":1") is ∙ sym (push_text y ys)) by_colon

plain_part : (xs p : List ℕ) → length xs ≡ 8 → most xs ≤ 1 → IsPart xs p → Closes p
plain_part xs p eight short (inl h) =
    let long = below_length h.0 xs h.1 in
    elim (cases_lt (length h.0) 8) [
      | inl less ↦ plain_inside xs h.0 p eight short h.1 less h.2
      | inr all ↦ closes_plain h.0 p (codes "]") (below_small h.0 xs h.1) (omega (arith, all, long, eight)) (omega (arith, below_most h.0 xs h.1, short)) (ap (λ bs. bs ++ codes "]") h.2) close
    ]
plain_part xs p eight short (inr h) = filled xs h.0 p (codes "1") eight short h.1 (reaches_colon h.0 p h.2 h.3) by_one

-- ---- a part of an address

pub address_part : (xs p c : List ℕ) → length xs ≡ 8 → AllSegments xs → p ++ c ≡ hex_groups_text xs → Closes p
address_part xs p c eight all e =
    let small = all_small xs all in
    elim (cases_lt 1 (most xs)) [
      | inl two ↦ compressed (around_longest xs (omega (arith, two))) two
      | inr short ↦ plain_part xs p eight short (groups_part xs p c small (e ∙ plain_text xs short))
    ]
  where
    compressed : Around xs → 1 < most xs → Closes p
    compressed a two =
        let k = most xs in
        let whole = a.whole in
        let small = subst Small whole (all_small xs all) in
        let sizes : length xs ≡ length a.front + (k + length a.back) = ap length whole ∙ length-append a.front (replicate k 0 ++ a.back) ∙ ap (λ n. length a.front + n) (length-append (replicate k 0) a.back ∙ ap (λ n. n + length a.back) (length-replicate {A = ℕ} k 0)) in
        compressed_part a.front k a.back p c (small_front a.front (replicate k 0 ++ a.back) small) (small_back (replicate k 0) a.back (small_back a.front (replicate k 0 ++ a.back) small)) (two, sym sizes ∙ eight) a.run
        (e ∙ ap hex_groups_text whole ∙ compressed_around a.front k a.back a.run two)

-- Each character's UTF-8 is decoded to it: one case for each count of bytes.
use Rattle.std.proofs.Common.{◌≡◌, ℕ, ◌+◌, ◌-◌, ◌*◌, ◌/◌, ◌%◌, ◌<◌, ◌≤◌, List, [], ◌∷◌, ◌++◌, ◌⊎◌, inl, inr, length, true, Some, sym, ap, subst, ◌∙◌, arith}
use Rattle.std.proofs.Math.Utf8.{encode, scalar}
use Rattle.std.proofs.lemmas.Bool.{cases_lt}
use Rattle.std.proofs.lemmas.Bool.Decides.{nat_tests}
use Rattle.terminals.specs.Utf8.{decoded}

-- ---- what bytes within the ranges of the table are decoded to

one_byte : (a : ℕ) (more : List ℕ) → a < 128 → decoded (a ∷ more) ≡ Some (a, 0)
unfolding decoded
one_byte a more ua = grind (arith, nat_tests)

two_bytes : (a b : ℕ) (more : List ℕ) → 0xc2 ≤ a → a < 0xe0 → 128 ≤ b → b < 192 → decoded (a ∷ b ∷ more) ≡ Some ((a - 0xc0) * 64 + (b - 128), 1)
unfolding decoded
two_bytes a b more la ua lb ub = grind (arith, nat_tests)

three_bytes : (a b c n : ℕ) (more : List ℕ) → 0xe0 ≤ a → a < 0xf0 → 128 ≤ b → b < 192 → 128 ≤ c → c < 192 → n ≡ (a - 0xe0) * 4096 + (b - 128) * 64 + (c - 128) → 0x800 ≤ n → (n < 0xd800) ⊎ (0xe000 ≤ n)
    → decoded (a ∷ b ∷ c ∷ more) ≡ Some (n, 2)
unfolding decoded
three_bytes a b c n more la ua lb ub lc uc e low s = rw (← e) (grind (arith, nat_tests))

four_bytes : (a b c d n : ℕ) (more : List ℕ) → 0xf0 ≤ a → a < 0xf5 → 128 ≤ b → b < 192 → 128 ≤ c → c < 192 → 128 ≤ d → d < 192
    → n ≡ (a - 0xf0) * 262144 + (b - 128) * 4096 + (c - 128) * 64 + (d - 128) → 0x10000 ≤ n → n < 0x110000 → decoded (a ∷ b ∷ c ∷ d ∷ more) ≡ Some (n, 3)
unfolding decoded
four_bytes a b c d n more la ua lb ub lc uc ld ud e low high = rw (← e) (grind (arith, nat_tests))

-- ---- the bytes of a character are within them

not_surrogate : (n : ℕ) → scalar n ≡ true → (n < 0xd800) ⊎ (0xe000 ≤ n)
not_surrogate n s = grind (arith, nat_tests)

within : (n : ℕ) → scalar n ≡ true → n < 0x110000
within n s = grind (arith, nat_tests)

-- the bytes are decoded to the character, whatever follows
abbrev Decodes : ℕ → List ℕ → List ℕ → Type 0
Decodes n more bytes = decoded (bytes ++ more) ≡ Some (n, length bytes - 1)

one : (n : ℕ) (more : List ℕ) → n < 128 → Decodes n more (encode n)
unfolding encode
one n more h = let is : encode n ≡ n ∷ [] = grind (arith, nat_tests) in subst (Decodes n more) (sym is) (one_byte n more h)

two : (n : ℕ) (more : List ℕ) → 128 ≤ n → n < 2048 → Decodes n more (encode n)
unfolding encode
two n more low high =
    let a = 192 + n / 64 in
    let b = 128 + n % 64 in
    let is : encode n ≡ a ∷ b ∷ [] = grind (arith, nat_tests) in
    let code : (a - 0xc0) * 64 + (b - 128) ≡ n = omega arith in
    subst (Decodes n more) (sym is) (two_bytes a b more (omega arith) (omega arith) (omega arith) (omega arith) ∙ ap (λ m. Some (m, 1)) code)

three : (n : ℕ) (more : List ℕ) → 2048 ≤ n → n < 65536 → (n < 0xd800) ⊎ (0xe000 ≤ n) → Decodes n more (encode n)
unfolding encode
three n more low high apart =
    let a = 224 + n / 4096 in
    let b = 128 + n / 64 % 64 in
    let c = 128 + n % 64 in
    let is : encode n ≡ a ∷ b ∷ c ∷ [] = grind (arith, nat_tests) in
    subst (Decodes n more) (sym is) (three_bytes a b c n more (omega arith) (omega arith) (omega arith) (omega arith) (omega arith) (omega arith) (omega arith) low apart)

four : (n : ℕ) (more : List ℕ) → 65536 ≤ n → n < 0x110000 → Decodes n more (encode n)
unfolding encode
four n more low high =
    let a = 240 + n / 262144 in
    let b = 128 + n / 4096 % 64 in
    let c = 128 + n / 64 % 64 in
    let d = 128 + n % 64 in
    let is : encode n ≡ a ∷ b ∷ c ∷ d ∷ [] = grind (arith, nat_tests) in
    subst (Decodes n more) (sym is) (four_bytes a b c d n more (omega arith) (omega arith) (omega arith) (omega arith) (omega arith) (omega arith) (omega arith) (omega arith) (omega arith) low high)

pub scalar_decoded : (n : ℕ) (more : List ℕ) → scalar n ≡ true → Decodes n more (encode n)
scalar_decoded n more s =
    elim (cases_lt n 128) [
      | inl h ↦ one n more h
      | inr h ↦ elim (cases_lt n 2048) [
        | inl k ↦ two n more h k
        | inr k ↦ elim (cases_lt n 65536) [ inl l ↦ three n more k l (not_surrogate n s) | inr l ↦ four n more l (within n s) ]
      ]
    ]

-- A character that was decoded is spelled as the standard library spells it.
use Rattle.std.proofs.Common.{◌≡◌, ℕ, suc, ◌+◌, ◌-◌, ◌*◌, ◌/◌, ◌%◌, ◌<◌, ◌≤◌, List, [], ◌∷◌, length, take, Bool, true, false, cond, ◌&&◌, ◌||◌, ◌⊎◌, Option, Some, None, refl, sym, ap, subst, ◌∙◌, inl, inr, arith}
use Rattle.std.specs.Prelude.{slice_index}
use Rattle.std.proofs.lemmas.Bool.{leb-true, ltb-true, leb-false, ltb-false, le-leb, lt-ltb, le-ltb}
use Rattle.std.proofs.Math.Dec.{leb, ltb}
use Rattle.std.proofs.Math.Utf8.{encode, scalar}
use Rattle.terminals.specs.Utf8.{follows, decoded}

-- the bytes of a code point, which is a scalar value
abbrev pub Spells : ℕ → List ℕ → Type 0
Spells n bytes = (encode n ≡ bytes) × (scalar n ≡ true)

one_byte : (n : ℕ) → n < 128 → Spells n (n ∷ [])
unfolding encode
one_byte n h =
    let t : ltb n 128 ≡ true = lt-ltb n 128 h in
    let s : ltb n 55296 ≡ true = lt-ltb n 55296 (omega arith) in (
      ap (λ t. cond t (n ∷ []) (cond (ltb n 2048) ((192 + n / 64) ∷ (128 + n % 64) ∷ []) (cond (ltb n 65536) ((224 + n / 4096) ∷ (128 + n / 64 % 64) ∷ (128 + n % 64) ∷ []) ((240 + n / 262144) ∷ (128 + n / 4096 % 64) ∷ (128 + n / 64 % 64) ∷ (128 + n % 64) ∷ [])))) t,
      ap (λ s. cond s true (leb 57344 n && ltb n 1114112)) s,
    )

two_bytes : (a b n : ℕ) → 194 ≤ a → a < 224 → 128 ≤ b → b < 192 → n ≡ (a - 192) * 64 + (b - 128) → Spells n (a ∷ b ∷ [])
unfolding encode
two_bytes a b n la ua lb ub e =
    let t : ltb n 128 ≡ false = le-ltb n 128 (omega arith) in
    let u : ltb n 2048 ≡ true = lt-ltb n 2048 (omega arith) in
    let s : ltb n 55296 ≡ true = lt-ltb n 55296 (omega arith) in
    let p : 192 + n / 64 ≡ a = omega arith in
    let q : 128 + n % 64 ≡ b = omega arith in
    (rw (t, u, p, q) refl, rw s refl)

three_bytes : (a b c n : ℕ) → 224 ≤ a → a < 240 → 128 ≤ b → b < 192 → 128 ≤ c → c < 192 → n ≡ (a - 224) * 4096 + (b - 128) * 64 + (c - 128) → 2048 ≤ n → scalar n ≡ true → Spells n (a ∷ b ∷ c ∷ [])
unfolding encode
three_bytes a b c n la ua lb ub lc uc e low s =
    let t : ltb n 128 ≡ false = le-ltb n 128 (omega arith) in
    let u : ltb n 2048 ≡ false = le-ltb n 2048 (omega arith) in
    let v : ltb n 65536 ≡ true = lt-ltb n 65536 (omega arith) in
    let p : 224 + n / 4096 ≡ a = omega arith in
    let q : 128 + n / 64 % 64 ≡ b = omega arith in
    let r : 128 + n % 64 ≡ c = omega arith in
    (rw (t, u, v, p, q, r) refl, s)

four_bytes : (a b c d n : ℕ) → 240 ≤ a → a < 245 → 128 ≤ b → b < 192 → 128 ≤ c → c < 192 → 128 ≤ d → d < 192 → n ≡ (a - 240) * 262144 + (b - 128) * 4096 + (c - 128) * 64 + (d - 128) → 65536 ≤ n → scalar n ≡ true → Spells n (a ∷ b ∷ c ∷ d ∷ [])
unfolding encode
four_bytes a b c d n la ua lb ub lc uc ld ud e low s =
    let t : ltb n 128 ≡ false = le-ltb n 128 (omega arith) in
    let u : ltb n 2048 ≡ false = le-ltb n 2048 (omega arith) in
    let v : ltb n 65536 ≡ false = le-ltb n 65536 (omega arith) in
    let p : 240 + n / 262144 ≡ a = omega arith in
    let q : 128 + n / 4096 % 64 ≡ b = omega arith in
    let r : 128 + n / 64 % 64 ≡ c = omega arith in
    let w : 128 + n % 64 ≡ d = omega arith in
    (rw (t, u, v, p, q, r, w) refl, s)

-- ---- what the tests say

by_test : {A : Type 0} (b : Bool) (x y : Option A) (v : A) → cond b x y ≡ Some v → ((b ≡ true) × (x ≡ Some v)) ⊎ (y ≡ Some v)
by_test true x y v e = inl (refl, e)
by_test false x y v e = inr e

and_both : (a b : Bool) → a && b ≡ true → (a ≡ true) × (b ≡ true)
and_both true b e = (refl, e)
and_both false b e = absurd cc

or_neither : (a b : Bool) → a || b ≡ false → (a ≡ false) × (b ≡ false)
or_neither true b e = absurd cc
or_neither false b e = (refl, e)

-- a code that is refused where the test holds
unless : {A : Type 0} (b : Bool) (x : Option A) (v : A) → cond b None x ≡ Some v → (b ≡ false) × (x ≡ Some v)
unless true x v e = absurd cc
unless false x v e = (refl, e)

follows_is : (b : ℕ) → follows b ≡ true → (128 ≤ b) × (b < 192)
follows_is b e = let t = and_both (leb 128 b) (ltb b 192) e in (leb-true 128 b t.0, ltb-true b 192 t.1)

not_surrogate : (n : ℕ) → n < 65536 → leb 0xd800 n && ltb n 0xe000 ≡ false → scalar n ≡ true
not_surrogate n h e = by (ltb n 55296) refl
  where
    by : (b : Bool) → ltb n 55296 ≡ b → scalar n ≡ true
    by true f = ap (λ t. cond t true (leb 57344 n && ltb n 1114112)) f
    by false f =
        let g : 55296 ≤ n = ltb-false n 55296 f in
        let p : leb 0xd800 n ≡ true = le-leb 55296 n g in
        let q : ltb n 0xe000 ≡ false = sym (ap (λ t. t && ltb n 0xe000) p) ∙ e in
        let r : 57344 ≤ n = ltb-false n 57344 q in
        let s : leb 57344 n ≡ true = le-leb 57344 n r in
        let t : ltb n 1114112 ≡ true = lt-ltb n 1114112 (omega arith) in
        rw (f, s, t) refl

high_scalar : (n : ℕ) → 65536 ≤ n → n < 1114112 → scalar n ≡ true
high_scalar n l u =
    let f : ltb n 55296 ≡ false = le-ltb n 55296 (omega arith) in
    let s : leb 57344 n ≡ true = le-leb 57344 n (omega arith) in
    let t : ltb n 1114112 ≡ true = lt-ltb n 1114112 u in
    rw (f, s, t) refl

-- what was decoded stands at the front of the bytes
abbrev pub IsSpelled : List ℕ → ℕ × ℕ → Type 0
IsSpelled bytes x = (x.1 < length bytes) × Spells x.0 (take (suc x.1) bytes)

third : (a b c : ℕ) (bytes : List ℕ) (x : ℕ × ℕ) → leb 0xe0 a && ltb a 0xf0 && follows b && follows c ≡ true
    → (let code = (a - 0xe0) * 4096 + (b - 128) * 64 + (c - 128) in cond (ltb code 0x800 || (leb 0xd800 code && ltb code 0xe000)) None (Some (code, 2)) ≡ Some x) → IsSpelled (a ∷ b ∷ c ∷ bytes) x
third a b c bytes x t e =
    let t2 = and_both _ (follows c) t in
    let t1 = and_both _ (follows b) t2.0 in
    let t0 = and_both (leb 0xe0 a) (ltb a 0xf0) t1.0 in
    let fb = follows_is b t1.1 in
    let fc = follows_is c t2.1 in
    let n : ℕ = (a - 0xe0) * 4096 + (b - 128) * 64 + (c - 128) in
    let u = unless (ltb n 0x800 || (leb 0xd800 n && ltb n 0xe000)) (Some (n, 2)) x e in
    let v = or_neither (ltb n 0x800) (leb 0xd800 n && ltb n 0xe000) u.0 in
    let la = leb-true 0xe0 a t0.0 in
    let ua = ltb-true a 0xf0 t0.1 in
    let low = ltb-false n 0x800 v.0 in
    let fits : n < 65536 = omega arith in
    let same : (n, 2) ≡ x = cc in
    subst (IsSpelled (a ∷ b ∷ c ∷ bytes)) same (omega arith, three_bytes a b c n la ua fb.0 fb.1 fc.0 fc.1 refl low (not_surrogate n fits v.1))

fourth : (a b c d : ℕ) (bytes : List ℕ) (x : ℕ × ℕ) → leb 0xf0 a && ltb a 0xf5 && follows b && follows c && follows d ≡ true
    → (let code = (a - 0xf0) * 262144 + (b - 128) * 4096 + (c - 128) * 64 + (d - 128) in cond (ltb code 0x10000 || leb 0x110000 code) None (Some (code, 3)) ≡ Some x) → IsSpelled (a ∷ b ∷ c ∷ d ∷ bytes) x
fourth a b c d bytes x t e =
    let t3 = and_both _ (follows d) t in
    let t2 = and_both _ (follows c) t3.0 in
    let t1 = and_both _ (follows b) t2.0 in
    let t0 = and_both (leb 0xf0 a) (ltb a 0xf5) t1.0 in
    let fb = follows_is b t1.1 in
    let fc = follows_is c t2.1 in
    let fd = follows_is d t3.1 in
    let n : ℕ = (a - 0xf0) * 262144 + (b - 128) * 4096 + (c - 128) * 64 + (d - 128) in
    let u = unless (ltb n 0x10000 || leb 0x110000 n) (Some (n, 3)) x e in
    let v = or_neither (ltb n 0x10000) (leb 0x110000 n) u.0 in
    let la = leb-true 0xf0 a t0.0 in
    let ua = ltb-true a 0xf5 t0.1 in
    let low = ltb-false n 0x10000 v.0 in
    let high = leb-false 0x110000 n v.1 in
    let same : (n, 3) ≡ x = cc in
    subst (IsSpelled (a ∷ b ∷ c ∷ d ∷ bytes)) same (omega arith, four_bytes a b c d n la ua fb.0 fb.1 fc.0 fc.1 fd.0 fd.1 refl low (high_scalar n low high))

second : (a b : ℕ) (bytes : List ℕ) (x : ℕ × ℕ) → leb 0xc2 a && ltb a 0xe0 && follows b ≡ true → Some ((a - 0xc0) * 64 + (b - 128), 1) ≡ Some x → IsSpelled (a ∷ b ∷ bytes) x
second a b bytes x t e =
    let t1 = and_both _ (follows b) t in
    let t0 = and_both (leb 0xc2 a) (ltb a 0xe0) t1.0 in
    let fb = follows_is b t1.1 in
    let n : ℕ = (a - 0xc0) * 64 + (b - 128) in
    let same : (n, 1) ≡ x = cc in
    subst (IsSpelled (a ∷ b ∷ bytes)) same (omega arith, two_bytes a b n (leb-true 0xc2 a t0.0) (ltb-true a 0xe0 t0.1) fb.0 fb.1 refl)

first : (a : ℕ) (bytes : List ℕ) (x : ℕ × ℕ) → ltb a 128 ≡ true → Some (a, 0) ≡ Some x → IsSpelled (a ∷ bytes) x
first a bytes x t e =
    let same : (a, 0) ≡ x = cc in
    subst (IsSpelled (a ∷ bytes)) same (omega arith, one_byte a (ltb-true a 128 t))

-- ---- the four lengths

abbrev at : List ℕ → ℕ → ℕ
at bytes k = slice_index bytes k

abbrev is_first : List ℕ → Bool
is_first bytes = leb 1 (length bytes) && ltb (at bytes 0) 128

abbrev is_second : List ℕ → Bool
is_second bytes = leb 2 (length bytes) && (leb 0xc2 (at bytes 0) && ltb (at bytes 0) 0xe0 && follows (at bytes 1))

abbrev is_third : List ℕ → Bool
is_third bytes = leb 3 (length bytes) && (leb 0xe0 (at bytes 0) && ltb (at bytes 0) 0xf0 && follows (at bytes 1) && follows (at bytes 2))

abbrev is_fourth : List ℕ → Bool
is_fourth bytes = leb 4 (length bytes) && (leb 0xf0 (at bytes 0) && ltb (at bytes 0) 0xf5 && follows (at bytes 1) && follows (at bytes 2) && follows (at bytes 3))

abbrev code_of_two : List ℕ → Option (ℕ × ℕ)
code_of_two bytes = Some ((at bytes 0 - 0xc0) * 64 + (at bytes 1 - 128), 1)

abbrev code_of_three : List ℕ → Option (ℕ × ℕ)
code_of_three bytes = let code = (at bytes 0 - 0xe0) * 4096 + (at bytes 1 - 128) * 64 + (at bytes 2 - 128) in cond (ltb code 0x800 || (leb 0xd800 code && ltb code 0xe000)) None (Some (code, 2))

abbrev code_of_four : List ℕ → Option (ℕ × ℕ)
code_of_four bytes = let code = (at bytes 0 - 0xf0) * 262144 + (at bytes 1 - 128) * 4096 + (at bytes 2 - 128) * 64 + (at bytes 3 - 128) in cond (ltb code 0x10000 || leb 0x110000 code) None (Some (code, 3))

spelled_first : (bytes : List ℕ) (x : ℕ × ℕ) → is_first bytes ≡ true → Some (at bytes 0, 0) ≡ Some x → IsSpelled bytes x
spelled_first [] x t e = absurd cc
spelled_first (a ∷ bytes) x t e = first a bytes x (and_both (leb 1 (length (a ∷ bytes))) _ t).1 e

spelled_second : (bytes : List ℕ) (x : ℕ × ℕ) → is_second bytes ≡ true → code_of_two bytes ≡ Some x → IsSpelled bytes x
spelled_second [] x t e = absurd cc
spelled_second (a ∷ []) x t e = absurd cc
spelled_second (a ∷ b ∷ bytes) x t e = second a b bytes x (and_both (leb 2 (length (a ∷ b ∷ bytes))) _ t).1 e

spelled_third : (bytes : List ℕ) (x : ℕ × ℕ) → is_third bytes ≡ true → code_of_three bytes ≡ Some x → IsSpelled bytes x
spelled_third [] x t e = absurd cc
spelled_third (a ∷ []) x t e = absurd cc
spelled_third (a ∷ b ∷ []) x t e = absurd cc
spelled_third (a ∷ b ∷ c ∷ bytes) x t e = third a b c bytes x (and_both (leb 3 (length (a ∷ b ∷ c ∷ bytes))) _ t).1 e

spelled_fourth : (bytes : List ℕ) (x : ℕ × ℕ) → is_fourth bytes ≡ true → code_of_four bytes ≡ Some x → IsSpelled bytes x
spelled_fourth [] x t e = absurd cc
spelled_fourth (a ∷ []) x t e = absurd cc
spelled_fourth (a ∷ b ∷ []) x t e = absurd cc
spelled_fourth (a ∷ b ∷ c ∷ []) x t e = absurd cc
spelled_fourth (a ∷ b ∷ c ∷ d ∷ bytes) x t e = fourth a b c d bytes x (and_both (leb 4 (length (a ∷ b ∷ c ∷ d ∷ bytes))) _ t).1 e

-- a character that was decoded stands at the front of the bytes, as it is spelled
pub spelled : (bytes : List ℕ) (x : ℕ × ℕ) → decoded bytes ≡ Some x → IsSpelled bytes x
unfolding decoded
spelled bytes x e =
    elim (by_test (is_first bytes) (Some (at bytes 0, 0)) (cond (is_second bytes) (code_of_two bytes) (cond (is_third bytes) (code_of_three bytes) (cond (is_fourth bytes) (code_of_four bytes) None))) x e) [
      | inl t ↦ spelled_first bytes x t.0 t.1
      | inr e ↦ elim (by_test (is_second bytes) (code_of_two bytes) (cond (is_third bytes) (code_of_three bytes) (cond (is_fourth bytes) (code_of_four bytes) None)) x e) [
        | inl t ↦ spelled_second bytes x t.0 t.1
        | inr e ↦ elim (by_test (is_third bytes) (code_of_three bytes) (cond (is_fourth bytes) (code_of_four bytes) None) x e) [
          | inl t ↦ spelled_third bytes x t.0 t.1
          | inr e ↦ elim (by_test (is_fourth bytes) (code_of_four bytes) None x e) [ inl t ↦ spelled_fourth bytes x t.0 t.1 | inr e ↦ absurd cc ]
        ]
      ]
    ]

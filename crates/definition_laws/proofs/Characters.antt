-- What a test of a character's class says of its code, and what its code says of its bytes.
use Rattle.std.proofs.Common.{◌≡◌, ℕ, ◌<◌, ◌≤◌, ◌==◌, List, [], ◌∷◌, ◌++◌, true, false, Bool, cond, sym, ap, subst, ◌∙◌, inl, inr, arith}
use Rattle.std.specs.List.{AllByRecursion}
use Rattle.std.specs.Str.{IsUtf8}
use Rattle.std.proofs.Math.Dec.{ltb}
use Rattle.std.proofs.Math.Utf8.{encode}
use Rattle.std.proofs.lemmas.Bool.{agree_below, agree_below_at, cases_lt, cond_both, eqb-true, le-ltb, ne_eqb}
use Rattle.std.proofs.lemmas.Str.{IsUtf8-nil, IsUtf8-append, IsUtf8-encode, encode_ascii}
use Rattle.terminals.specs.declared.class.Class.{Class}
use Rattle.terminals.specs.declared.class.Class.TheVariants as classes
use Rattle.terminals.specs.Class.{classified, ascii_class, wide_class}
use Rattle.definition_laws.proofs.Letters.{Letter, bytes_of}
use Rattle.definition_laws.proofs.Undone.{HasNo}

-- ---- by its class

by_tests : (test : Class → Bool) → test classes.WideMid ≡ false → test classes.WideLetter ≡ false → test classes.Other ≡ false → (a b : Bool) → test (cond a classes.WideMid (cond b classes.WideLetter classes.Other)) ≡ false
by_tests test m l o true b = m
by_tests test m l o false true = l
by_tests test m l o false false = o

wide_fails : (test : Class → Bool) → test classes.WideMid ≡ false → test classes.WideLetter ≡ false → test classes.Other ≡ false → (n : ℕ) → test (wide_class n) ≡ false
unfolding wide_class
wide_fails test m l o n = search (by_tests test m l o)

-- it is of ASCII, where the test takes no class from beyond
pub is_small : (test : Class → Bool) → test classes.WideMid ≡ false → test classes.WideLetter ≡ false → test classes.Other ≡ false → (n : ℕ) → test (classified n) ≡ true → n < 128
is_small test m l o n e = elim (cases_lt n 128) [
  | inl h ↦ h
  | inr h ↦ absurd (let p = wide_fails test m l o n in let q = ap (λ t. test (cond t (ascii_class n) (wide_class n))) (le-ltb n 128 h) in cc)
]

-- and it is this character, where the test takes no other one of ASCII
pub is_alone : (test : Class → Bool) (q : ℕ) → test classes.WideMid ≡ false → test classes.WideLetter ≡ false → test classes.Other ≡ false
    → agree_below (λ k. test (classified k)) (λ k. k == q) 128 ≡ true → (n : ℕ) → test (classified n) ≡ true → n ≡ q
is_alone test q m l o table n e = eqb-true n q (sym (agree_below_at (λ k. test (classified k)) (λ k. k == q) 128 n table (is_small test m l o n e)) ∙ e)

-- another one is not this
pub is_other : (test : Class → Bool) (q : ℕ) → test (classified q) ≡ false → (n : ℕ) → test (classified n) ≡ true → n ≡ q → ⊥
is_other test q f n e same = let p = ap (λ k. test (classified k)) same in absurd cc

-- ---- its bytes

-- beyond ASCII none is of ASCII
pub wide_bytes : (n : ℕ) → 128 ≤ n → AllByRecursion (λ b. 128 ≤ b) (encode n)
unfolding encode
wide_bytes n h =
    let P : List ℕ → Type 0 = λ l. AllByRecursion (λ b. 128 ≤ b) l in
    cond_both (ltb n 128) _ _ P (λ _. (h, tt)) (λ _. cond_both (ltb n 2048) _ _ P (λ _. (omega arith, (omega arith, tt)))
    (λ _. cond_both (ltb n 65536) _ _ P (λ _. (omega arith, (omega arith, (omega arith, tt)))) (λ _. (omega arith, (omega arith, (omega arith, (omega arith, tt)))))))

wide_has_no : (q : ℕ) (bytes : List ℕ) → q < 128 → AllByRecursion (λ b. 128 ≤ b) bytes → HasNo q bytes
wide_has_no q [] lt h = tt
wide_has_no q (b ∷ bytes) lt h = (ne_eqb b q (λ e. let f = h.0 in absurd (omega arith)), wide_has_no q bytes lt h.1)

-- another character has no such byte
pub has_no : (q n : ℕ) → q < 128 → (n ≡ q → ⊥) → HasNo q (encode n)
has_no q n lt other = elim (cases_lt n 128) [
  | inl h ↦ subst (λ (l : List ℕ). HasNo q l) (sym (encode_ascii n h)) (ne_eqb n q other, tt)
  | inr h ↦ wide_has_no q (encode n) lt (wide_bytes n h)
]

has_no_append : (q : ℕ) (xs ys : List ℕ) → HasNo q xs → HasNo q ys → HasNo q (xs ++ ys)
has_no_append q [] ys p r = r
has_no_append q (x ∷ xs) ys p r = (p.0, has_no_append q xs ys p.1 r)

pub none_have : (q : ℕ) (ls : List Letter) → q < 128 → AllByRecursion (λ (x : Letter). x.code ≡ q → ⊥) ls → HasNo q (bytes_of ls)
none_have q [] lt h = tt
none_have q (x ∷ ls) lt h = has_no_append q (encode x.code) (bytes_of ls) (has_no q x.code lt h.0) (none_have q ls lt h.1)

-- the bytes of characters are UTF-8
pub are_utf8 : (ls : List Letter) → IsUtf8 (bytes_of ls)
are_utf8 [] = IsUtf8-nil
are_utf8 (x ∷ ls) = IsUtf8-append (encode x.code) (bytes_of ls) (IsUtf8-encode x.code x.fine) (are_utf8 ls)

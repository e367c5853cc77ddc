-- Where the escapes of bytes are undone, UTF-8 stands behind each part that is closed: a text with no backslash, or a whole escape.
use Rattle.std.proofs.Common.{◌≡◌, ℕ, zero, suc, ◌<◌, ◌≤◌, ◌==◌, ◌&&◌, List, [], ◌∷◌, ◌++◌, length, take, drop, slice_index, true, false, not, Bool, if◌then◌else◌, refl, sym, ap, subst, ◌∙◌, inl, inr, arith, append_assoc, append-nil, length-append}
use Rattle.std.specs.List.{AllByRecursion}
use Rattle.std.specs.Str.{IsUtf8}
use Rattle.std.proofs.Math.Dec.{leb, ltb}
use Rattle.std.proofs.Math.Utf8.{scalar, low_scalar}
use Rattle.std.proofs.lemmas.Bool.{and_parts, cases_lt, cond_both, le-leb, le-ltb, ltb-false, not-true, ne_eqb}
use Rattle.std.proofs.lemmas.List.{drop_at}
use Rattle.std.proofs.lemmas.Str.{IsUtf8-nil, IsUtf8-append, IsUtf8-encode, encode_ascii}
use Rattle.terminals.specs.Terminals.{is_scalar}
use Rattle.terminals.specs.Values.{unescaped, unescaped_upto, escape_text, escape_width, escaped, scalar_text, number_from}

abbrev pub HasNo : ℕ → List ℕ → Type 0
HasNo q bytes = AllByRecursion (λ b. (b == q) ≡ false) bytes

-- with their escapes undone, the bytes are UTF-8
abbrev pub IsUndone : List ℕ → Type 0
IsUndone bytes = (n : ℕ) → length bytes ≤ n → IsUtf8 (unescaped_upto n bytes)

-- and so they are behind these
abbrev pub Closed : List ℕ → Type 0
Closed front = (rest : List ℕ) → IsUndone rest → IsUndone (front ++ rest)

pub closed_nil : Closed []
closed_nil rest r = r

pub closed_append : (xs ys : List ℕ) → Closed xs → Closed ys → Closed (xs ++ ys)
closed_append xs ys p q rest r = subst IsUndone (sym (append_assoc xs ys rest)) (p (ys ++ rest) (q rest r))

nothing_undone : IsUndone []
unfolding unescaped_upto
nothing_undone zero le = IsUtf8-nil
nothing_undone (suc n) le = IsUtf8-nil

pub closed_undone : (bytes : List ℕ) → Closed bytes → IsUtf8 (unescaped bytes)
closed_undone bytes c = subst (λ (l : List ℕ). IsUtf8 (unescaped l)) (append-nil bytes) (c [] nothing_undone (length (bytes ++ [])) (omega arith))

-- ---- a text with no backslash

past : (front rest : List ℕ) (n : ℕ) → HasNo 92 front → length (front ++ rest) ≤ n → (m : ℕ) × (length rest ≤ m) × (unescaped_upto n (front ++ rest) ≡ front ++ unescaped_upto m rest)
unfolding unescaped_upto
past [] rest n h le = (n, le, refl)
past (b ∷ front) rest zero h le = absurd (omega arith)
past (b ∷ front) rest (suc n) h le =
    let r = past front rest n h.1 (omega arith) in
    let more : List ℕ = front ++ rest in
    (r.0, r.1, ap (λ (t : Bool). if t then escape_text more ++ unescaped_upto n (drop (escape_width (slice_index more 0)) more) else b ∷ unescaped_upto n more) h.0 ∙ ap (λ l. b ∷ l) r.2)

pub closed_plain : (front : List ℕ) → IsUtf8 front → HasNo 92 front → Closed front
closed_plain front u h rest r n le = let p = past front rest n h le in subst IsUtf8 (sym p.2) (IsUtf8-append front (unescaped_upto p.0 rest) u (r p.0 p.1))

-- ---- an escape

escape_by : (body rest : List ℕ) (n : ℕ) → length (92 ∷ body ++ rest) ≤ n → IsUtf8 (escape_text (body ++ rest)) → drop (escape_width (slice_index (body ++ rest) 0)) (body ++ rest) ≡ rest → IsUndone rest → IsUtf8 (unescaped_upto n (92 ∷ body ++ rest))
unfolding unescaped_upto
escape_by body rest zero le u e r = absurd (omega arith)
escape_by body rest (suc n) le u e r = IsUtf8-append (escape_text (body ++ rest)) _ u (subst (λ (l : List ℕ). IsUtf8 (unescaped_upto n l)) (sym e) (r n (omega (arith, length-append body rest))))

-- a character of ASCII
pub small_text : (n : ℕ) → n < 128 → IsUtf8 (n ∷ [])
small_text n h = subst IsUtf8 (encode_ascii n h) (IsUtf8-encode n (low_scalar n (omega arith)))

escaped_small : (b : ℕ) → b < 128 → escaped b < 128
escaped_small b h =
    let P : ℕ → Type 0 = λ x. x < 128 in
    cond_both (b == 116) _ _ P (λ _. omega arith) (λ _. cond_both (b == 98) _ _ P (λ _. omega arith) (λ _. cond_both (b == 110) _ _ P (λ _. omega arith) (λ _. cond_both (b == 114) _ _ P (λ _. omega arith) (λ _. cond_both (b == 102) _ _ P (λ _. omega arith) (λ _. h)))))

-- by one character
pub closed_letter : (b : ℕ) → b < 128 → (b ≡ 117 → ⊥) → (b ≡ 85 → ⊥) → Closed (92 ∷ b ∷ [])
closed_letter b h not_u not_big rest r n le =
    let u : (b == 117) ≡ false = ne_eqb b 117 not_u in
    let v : (b == 85) ≡ false = ne_eqb b 85 not_big in
    escape_by (b ∷ []) rest n le (rw (u, v) (small_text (escaped b) (escaped_small b h))) (rw (u, v) refl) r

scalar_high : (n : ℕ) → 55296 ≤ n → is_scalar n ≡ true → scalar n ≡ true
scalar_high n h e =
    let p = and_parts (ltb n 0x110000) (not (leb 0xd800 n && ltb n 0xe000)) e in
    let q : (leb 0xd800 n && ltb n 0xe000) ≡ false = not-true _ p.1 in
    let r : ltb n 0xe000 ≡ false = sym (ap (λ t. t && ltb n 0xe000) (le-leb 0xd800 n h)) ∙ q in
    let s : leb 57344 n ≡ true = le-leb 57344 n (ltb-false n 0xe000 r) in
    let t : ltb n 55296 ≡ false = le-ltb n 55296 h in
    rw (t, s, p.0) refl

scalar_is : (n : ℕ) → is_scalar n ≡ true → scalar n ≡ true
scalar_is n e = elim (cases_lt n 55296) [ inl h ↦ low_scalar n h | inr h ↦ scalar_high n h e ]

scalar_utf8 : (n : ℕ) → IsUtf8 (scalar_text n)
scalar_utf8 n = cond_both (is_scalar n) _ _ (λ (l : List ℕ). IsUtf8 l) (λ e. IsUtf8-encode n (scalar_is n e)) (λ _. IsUtf8-nil)

-- by four digits, and by eight
pub closed_four : (digits : List ℕ) → length digits ≡ 4 → Closed (92 ∷ 117 ∷ digits)
closed_four digits four rest r n le = escape_by (117 ∷ digits) rest n le (scalar_utf8 (number_from 0 (take 4 (digits ++ rest)))) (drop_at digits rest 4 four) r

pub closed_eight : (digits : List ℕ) → length digits ≡ 8 → Closed (92 ∷ 85 ∷ digits)
closed_eight digits eight rest r n le = escape_by (85 ∷ digits) rest n le (scalar_utf8 (number_from 0 (take 8 (digits ++ rest)))) (drop_at digits rest 8 eight) r

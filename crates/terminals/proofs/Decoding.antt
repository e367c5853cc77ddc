-- When bytes are a text.
use Rattle.std.proofs.Common.{◌≡◌, ℕ, ◌≤◌, List, Bool, true, false, not, cond, nat_lt, Option, Some, None, length, position, refl, ap, sym, subst, ◌∙◌, if◌then◌else◌, arith}
use Rattle.std.specs.List.{position_or_len}
use Rattle.std.proofs.lemmas.List.Sums.{prefix_len-le-length}
use borrow.Author.Tests.{ltb-false}
use Rattle.std.specs.Str.{is_utf8, IsUtf8}
use Rattle.std.proofs.lemmas.Str.{is_utf8-from_IsUtf8, IsUtf8-from_is_utf8}
use Rattle.terminals.specs.Texts.{plain}

pub is_text : (bytes : List ℕ) → IsUtf8 bytes → plain bytes ≡ Some bytes
is_text bytes u = rw (is_utf8-from_IsUtf8 bytes u) refl

none_when : (bytes : List ℕ) (b : Bool) → is_utf8 bytes ≡ b → (IsUtf8 bytes → ⊥) → (if b then Some bytes else None) ≡ None
none_when bytes true e n = absurd (n (IsUtf8-from_is_utf8 bytes e))
none_when bytes false e n = refl

pub is_none : (bytes : List ℕ) → (IsUtf8 bytes → ⊥) → plain bytes ≡ None
is_none bytes n = none_when bytes (is_utf8 bytes) refl n

pub text_is : (t bytes made : List ℕ) → IsUtf8 t → t ≡ bytes → made ≡ t → Some made ≡ plain bytes
text_is t bytes made u e m = ap (λ (x : List ℕ). Some x) (m ∙ e) ∙ sym (is_text bytes (subst (λ (x : List ℕ). IsUtf8 x) e u))

place_by : (b : Bool) (n at : ℕ) → Some at ≡ cond b (Some n) None → at ≡ n
place_by true n at e = cc
place_by false n at e = absurd cc

end_by : (b : Bool) (n len : ℕ) → nat_lt n len ≡ b → None ≡ cond b (Some n) None → n ≤ len → len ≡ n
end_by true n len t e le = absurd cc
end_by false n len t e le = omega (arith, ltb-false n len t)

-- the place of the first byte that passes, by whether there is one
pub place_is : (p : ℕ → Bool) (bytes : List ℕ) (at : ℕ) → Some at ≡ position p bytes → at ≡ position_or_len p bytes
place_is p bytes at e = place_by (nat_lt (position_or_len p bytes) (length bytes)) (position_or_len p bytes) at e

pub end_is : (p : ℕ → Bool) (bytes : List ℕ) → None ≡ position p bytes → length bytes ≡ position_or_len p bytes
end_is p bytes e = end_by (nat_lt (position_or_len p bytes) (length bytes)) (position_or_len p bytes) (length bytes) refl e (prefix_len-le-length (λ x. not (p x)) bytes)

-- The text of a language tag, which is in lower case, is in UTF-8.
use Rattle.std.proofs.Common.{◌≡◌, ℕ, ◌+◌, ◌<◌, ◌≤◌, List, [], ◌∷◌, map, false, nat_le, if◌then◌else◌, refl, sym, ap, subst, ◌∙◌, inl, inr, arith}
use Rattle.std.specs.List.{AllByRecursion}
use Rattle.std.specs.Str.{IsUtf8}
use Rattle.std.proofs.Math.Utf8.{encode}
use Rattle.std.proofs.lemmas.Bool.{and_parts, and_right, cases_lt, cond_both, leb-true, lt-leb}
use Rattle.std.proofs.lemmas.List.{map-append}
use Rattle.std.proofs.lemmas.Str.{IsUtf8-nil, IsUtf8-append, IsUtf8-encode, encode_ascii}
use Rattle.terminals.specs.Class.{in_range}
use Rattle.terminals.specs.Groups.{is_at, is_letter, is_letter_or_digit, is_minus}
use Rattle.terminals.specs.Rules.{One, Then, Many, some}
use Rattle.terminals.specs.Terminals.{language_tag}
use Rattle.terminals.specs.Values.{lower, tag_text}
use Rattle.definition_laws.proofs.Matching.{Matches}
use Rattle.definition_laws.proofs.Letters.{Letter, bytes_of, class_of}
use Rattle.definition_laws.proofs.Undone.{small_text}
use Rattle.definition_laws.proofs.Characters.{is_small, wide_bytes}
use Rattle.definition_laws.proofs.Texts.{begins}

lower_small : (b : ℕ) → b < 128 → lower b < 128
lower_small b h = cond_both (in_range 65 90 b) _ _ (λ (x : ℕ). x < 128) (λ e. omega (arith, leb-true b 90 (and_parts (nat_le 65 b) (nat_le b 90) e).1)) (λ _. h)

lower_wide : (bytes : List ℕ) → AllByRecursion (λ b. 128 ≤ b) bytes → map lower bytes ≡ bytes
lower_wide [] h = refl
lower_wide (b ∷ bytes) h =
    let no : in_range 65 90 b ≡ false = and_right (nat_le 65 b) (nat_le b 90) (let l = h.0 in lt-leb b 90 (omega arith)) in
    ap (λ t. (if t then b + 32 else b) ∷ map lower bytes) no ∙ ap (λ l. b ∷ l) (lower_wide bytes h.1)

lower_one : (x : Letter) → IsUtf8 (map lower (encode x.code))
lower_one x = elim (cases_lt x.code 128) [
  | inl h ↦ subst (λ (l : List ℕ). IsUtf8 (map lower l)) (sym (encode_ascii x.code h)) (small_text (lower x.code) (lower_small x.code h))
  | inr h ↦ subst IsUtf8 (sym (lower_wide (encode x.code) (wide_bytes x.code h))) (IsUtf8-encode x.code x.fine)
]

lower_utf8 : (ls : List Letter) → IsUtf8 (map lower (bytes_of ls))
lower_utf8 [] = IsUtf8-nil
lower_utf8 (x ∷ ls) = subst IsUtf8 (sym (map-append lower (encode x.code) (bytes_of ls))) (IsUtf8-append _ _ (lower_one x) (lower_utf8 ls))

pub tag_utf8 : (ls : List Letter) → Matches class_of language_tag ls → IsUtf8 (tag_text (bytes_of ls))
tag_utf8 ls m =
    let b = begins is_at (Then (some (One is_letter)) (Many (Then (One is_minus) (some (One is_letter_or_digit))))) ls (is_small is_at refl refl refl) m in
    subst IsUtf8 (sym (ap tag_text b.2)) (lower_utf8 b.1)

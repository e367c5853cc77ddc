-- Escaping leaves the bytes of a character past ASCII as they are, and goes character by character.
use Rattle.std.proofs.Common.{◌≡◌, ◌≢◌, ℕ, ◌+◌, ◌/◌, ◌≤◌, Bool, true, false, List, [], ◌∷◌, ◌++◌, cond, flat_map, refl, arith, ltb, append-nil, append_assoc}
use Rattle.std.proofs.lemmas.Bool.Decides.{nat_tests}
use Rattle.std.proofs.lemmas.Str.{encodes-append}
use Rattle.std.proofs.lemmas.Grind.{flat_map-append}
use lib.Utf8.{encode, encodes, next}
use Rattle.rdf_terms.specs.NTriplesForm.{escaped}

kept : (b : ℕ) → b ≢ 34 → b ≢ 92 → b ≢ 10 → b ≢ 13 → b ≢ 9 → escaped b ≡ b ∷ []
kept b p q r s t = grind (arith, nat_tests)

kept_high : (b : ℕ) → 128 ≤ b → escaped b ≡ b ∷ []
kept_high b h = kept b (omega arith) (omega arith) (omega arith) (omega arith) (omega arith)

abbrev AllHigh : List ℕ → Type 0
AllHigh [] = Unit {0}
AllHigh (b ∷ bs) = (128 ≤ b) × AllHigh bs

all_kept : (bs : List ℕ) → AllHigh bs → flat_map escaped bs ≡ bs
all_kept [] h = refl
all_kept (b ∷ bs) h = rw (kept_high b h.0, all_kept bs h.1) refl

plain_at : (x y z : Bool) (c : ℕ) → ltb c 128 ≡ x → c ≢ 34 → c ≢ 92 → c ≢ 10 → c ≢ 13 → c ≢ 9 →
    let bytes : List ℕ = cond x (c ∷ []) (cond y ((192 + c / 64) ∷ next c ∷ []) (cond z ((224 + c / 4096) ∷ next (c / 64) ∷ next c ∷ []) ((240 + c / 262144) ∷ next (c / 4096) ∷ next (c / 64) ∷ next c ∷ []))) in
    flat_map escaped bytes ≡ bytes
plain_at true y z c e p q r s t = rw (kept c p q r s t) refl
plain_at false true z c e p q r s t = all_kept _ (omega arith, (omega arith, tt))
plain_at false false true c e p q r s t = all_kept _ (omega arith, (omega arith, (omega arith, tt)))
plain_at false false false c e p q r s t = all_kept _ (omega arith, (omega arith, (omega arith, (omega arith, tt))))

-- a character that isn't escaped
pub plain : (c : ℕ) → c ≢ 34 → c ≢ 92 → c ≢ 10 → c ≢ 13 → c ≢ 9 → flat_map escaped (encode c) ≡ encode c
unfolding encode
plain c p q r s t = plain_at _ _ _ c refl p q r s t

-- one character more
pub one_more : (start mid new cs : List ℕ) (c : ℕ)
    → mid ≡ start ++ flat_map escaped (encodes cs) → new ≡ mid ++ flat_map escaped (encode c)
    → new ≡ start ++ flat_map escaped (encodes (cs ++ c ∷ []))
one_more start mid new cs c e f =
    rw (f, e, encodes-append cs (c ∷ []), flat_map-append escaped (encodes cs) (encodes (c ∷ [])), append-nil (encode c))
    (append_assoc start _ _)

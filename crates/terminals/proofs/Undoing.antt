-- How far the escapes of a text are undone.
use Rattle.std.proofs.Common.{◌≡◌, ℕ, suc, zero, ◌≤◌, ◌<◌, ◌==◌, Bool, true, false, List, [], ◌∷◌, ◌++◌, length, drop, slice_index, if◌then◌else◌, refl, sym, ap, subst, ◌∙◌, append_assoc, append-nil, length-drop, arith}
use Rattle.terminals.specs.Values.{unescaped, unescaped_upto, escape_text, escape_width}

-- what is made so far and what the rest comes to are what the whole text comes to
pub record Leaves (out rest bytes : List ℕ) : Type 0 where
  pub steps : ℕ
  pub enough : length rest ≤ steps
  pub same : out ++ unescaped_upto steps rest ≡ unescaped bytes

pub begins : (bytes : List ℕ) → Leaves [] bytes bytes
begins bytes = record { steps = length bytes; enough = omega arith; same = refl }

escape_by : (steps : ℕ) (out after bytes : List ℕ) → length after < steps → out ++ unescaped_upto steps (92 ∷ after) ≡ unescaped bytes → Leaves (out ++ escape_text after) (drop (escape_width (slice_index after 0)) after) bytes
unfolding unescaped_upto
escape_by zero out after bytes le h = absurd (omega arith)
escape_by (suc n) out after bytes le h = record { steps = n; enough = omega (arith, length-drop (escape_width (slice_index after 0)) after); same = append_assoc out (escape_text after) _ ∙ h }

escape_is : (out new rest after bytes : List ℕ) (b : ℕ) → rest ≡ b ∷ after → b ≡ 92 → new ≡ out ++ escape_text after → Leaves out rest bytes → Leaves new (drop (escape_width (slice_index after 0)) after) bytes
escape_is out new rest after bytes b e is n h =
    let r : rest ≡ 92 ∷ after = e ∙ ap (λ (x : ℕ). x ∷ after) is in
    let le : length after < h.steps = omega (arith, h.enough, ap length r) in
    let same : out ++ unescaped_upto h.steps (92 ∷ after) ≡ unescaped bytes = subst (λ (l : List ℕ). out ++ unescaped_upto h.steps l ≡ unescaped bytes) r h.same in
    subst (λ (l : List ℕ). Leaves l (drop (escape_width (slice_index after 0)) after) bytes) (sym n) (escape_by h.steps out after bytes le same)

-- an escape
pub escape_more : (out new rest after left bytes : List ℕ) (b w z : ℕ) → rest ≡ b ∷ after → b ≡ 92 → new ≡ out ++ escape_text after → left ≡ drop w after → w ≡ escape_width z → z ≡ slice_index after 0 → Leaves out rest bytes → Leaves new left bytes
escape_more out new rest after left bytes b w z e is n d ww zz h =
    let left_is : left ≡ drop (escape_width (slice_index after 0)) after = d ∙ ap (λ (x : ℕ). drop x after) (ww ∙ ap escape_width zz) in
    subst (λ (l : List ℕ). Leaves new l bytes) (sym left_is) (escape_is out new rest after bytes b e is n h)

byte_by : (steps : ℕ) (out after bytes : List ℕ) (b : ℕ) → (b == 92) ≡ false → length after < steps → out ++ unescaped_upto steps (b ∷ after) ≡ unescaped bytes → Leaves (out ++ b ∷ []) after bytes
unfolding unescaped_upto
byte_by zero out after bytes b differs le h = absurd (omega arith)
byte_by (suc n) out after bytes b differs le h = record { steps = n; enough = omega arith; same = append_assoc out (b ∷ []) _ ∙ (ap (λ (t : Bool). out ++ (if t then escape_text after ++ unescaped_upto n (drop (escape_width (slice_index after 0)) after) else (b ∷ unescaped_upto n after))) (sym differs) ∙ h) }

-- another byte
pub byte_more : (out new rest after bytes : List ℕ) (b : ℕ) → rest ≡ b ∷ after → (b == 92) ≡ false → new ≡ out ++ b ∷ [] → Leaves out rest bytes → Leaves new after bytes
byte_more out new rest after bytes b e differs n h =
    let le : length after < h.steps = omega (arith, h.enough, ap length e) in
    let same : out ++ unescaped_upto h.steps (b ∷ after) ≡ unescaped bytes = subst (λ (l : List ℕ). out ++ unescaped_upto h.steps l ≡ unescaped bytes) e h.same in
    subst (λ (l : List ℕ). Leaves l after bytes) (sym n) (byte_by h.steps out after bytes b differs le same)

nothing_left : (steps : ℕ) (out bytes : List ℕ) → out ++ unescaped_upto steps [] ≡ unescaped bytes → out ≡ unescaped bytes
unfolding unescaped_upto
nothing_left zero out bytes h = sym (append-nil out) ∙ h
nothing_left (suc n) out bytes h = sym (append-nil out) ∙ h

-- the end
pub all_undone : (out rest bytes : List ℕ) → rest ≡ [] → Leaves out rest bytes → out ≡ unescaped bytes
all_undone out rest bytes e h = nothing_left h.steps out bytes (subst (λ (l : List ℕ). out ++ unescaped_upto h.steps l ≡ unescaped bytes) e h.same)

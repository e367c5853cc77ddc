-- The truth of parts, one at a time.
use Rattle.std.proofs.Common.{◌≡◌, ◌∙◌, ℕ, ◌+◌, ◌<◌, ◌≤◌, suc, Bool, true, false, cond, not, ◌||◌, List, [], ◌∷◌, length, get_or, drop, map, Option, Some, None, is_none, refl, ap, sym, add-one, drop-cons}
use Rattle.std.specs.List.{list_any}
use Rattle.std.proofs.lemmas.List.{at_drop_all}
use Rattle.expr_eval.specs.Value.{is_true, is_false, any_of, all_of}

-- what the parts that are left come to, where no earlier one is true; sound: and none is the error
abbrev pub any_from : Bool → List (Option Bool) → Option Bool
any_from sound [] = cond sound (Some false) None
any_from sound (Some true ∷ ts) = Some true
any_from sound (Some false ∷ ts) = any_from sound ts
any_from sound (None ∷ ts) = any_from false ts

any_from-is : (sound : Bool) (ts : List (Option Bool)) → any_from sound ts ≡ cond (list_any is_true ts) (Some true) (cond (not sound || list_any is_none ts) None (Some false))
any_from-is true [] = refl
any_from-is false [] = refl
any_from-is true (Some true ∷ ts) = refl
any_from-is false (Some true ∷ ts) = refl
any_from-is true (Some false ∷ ts) = any_from-is true ts
any_from-is false (Some false ∷ ts) = any_from-is false ts
any_from-is true (None ∷ ts) = any_from-is false ts
any_from-is false (None ∷ ts) = any_from-is false ts

pub any_from-all : (ts : List (Option Bool)) → any_from true ts ≡ any_of ts
any_from-all ts = any_from-is true ts

abbrev pub all_from : Bool → List (Option Bool) → Option Bool
all_from sound [] = cond sound (Some true) None
all_from sound (Some false ∷ ts) = Some false
all_from sound (Some true ∷ ts) = all_from sound ts
all_from sound (None ∷ ts) = all_from false ts

all_from-is : (sound : Bool) (ts : List (Option Bool)) → all_from sound ts ≡ cond (list_any is_false ts) (Some false) (cond (not sound || list_any is_none ts) None (Some true))
all_from-is true [] = refl
all_from-is false [] = refl
all_from-is true (Some false ∷ ts) = refl
all_from-is false (Some false ∷ ts) = refl
all_from-is true (Some true ∷ ts) = all_from-is true ts
all_from-is false (Some true ∷ ts) = all_from-is false ts
all_from-is true (None ∷ ts) = all_from-is false ts
all_from-is false (None ∷ ts) = all_from-is false ts

pub all_from-all : (ts : List (Option Bool)) → all_from true ts ≡ all_of ts
all_from-all ts = all_from-is true ts

-- the part at a place, before those after it
pub next_part : {X Y : Type 0} (f : X → Y) (xs : List X) (i : ℕ) (x : X) (y : Y) → i < length xs → x ≡ get_or xs i x → f x ≡ y → map f (drop i xs) ≡ y ∷ map f (drop (i + 1) xs)
next_part f xs i x y h e t =
    rw add-one (ap (map f) (drop-cons xs i x h) ∙ ap (λ z. f z ∷ map f (drop (suc i) xs)) (sym e) ∙ ap (λ z. z ∷ map f (drop (suc i) xs)) t)

pub no_part : {X Y : Type 0} (f : X → Y) (xs : List X) (i : ℕ) → length xs ≤ i → map f (drop i xs) ≡ []
no_part f xs i h = at_drop_all (map f) xs i h

-- one turn over the parts, where the part is no answer and where it is the error
module _ {X : Type 0} (f : X → Option Bool) (xs : List X) (i : ℕ) (x : X) (sound after : Bool) (answer : Option Bool) (h : i < length xs) (e : x ≡ get_or xs i x) where
  pub any_past_false : f x ≡ Some false → after ≡ sound → any_from sound (map f (drop i xs)) ≡ answer → any_from after (map f (drop (i + 1) xs)) ≡ answer
  any_past_false t same before =
      ap (λ b. any_from b (map f (drop (i + 1) xs))) same ∙ ap (any_from sound) (sym (next_part f xs i x (Some false) h e t)) ∙ before

  pub any_past_error : f x ≡ None → after ≡ false → any_from sound (map f (drop i xs)) ≡ answer → any_from after (map f (drop (i + 1) xs)) ≡ answer
  any_past_error t same before =
      ap (λ b. any_from b (map f (drop (i + 1) xs))) same ∙ ap (any_from sound) (sym (next_part f xs i x None h e t)) ∙ before

  pub all_past_true : f x ≡ Some true → after ≡ sound → all_from sound (map f (drop i xs)) ≡ answer → all_from after (map f (drop (i + 1) xs)) ≡ answer
  all_past_true t same before =
      ap (λ b. all_from b (map f (drop (i + 1) xs))) same ∙ ap (all_from sound) (sym (next_part f xs i x (Some true) h e t)) ∙ before

  pub all_past_error : f x ≡ None → after ≡ false → all_from sound (map f (drop i xs)) ≡ answer → all_from after (map f (drop (i + 1) xs)) ≡ answer
  all_past_error t same before =
      ap (λ b. all_from b (map f (drop (i + 1) xs))) same ∙ ap (all_from sound) (sym (next_part f xs i x None h e t)) ∙ before

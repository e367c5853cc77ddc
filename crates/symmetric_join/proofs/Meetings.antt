-- One row more of those that a row is met with.
use Rattle.std.proofs.Common.{◌≡◌, ◌∙◌, ap, ℕ, ◌+◌, ◌<◌, List, [], ◌∷◌, ◌++◌, Bool, true, false, cond, Option, take, get_or, length, filter, append-nil}
use Rattle.std.proofs.lemmas.List.{take_more}
use Rattle.std.proofs.lemmas.List.Concat.{flat_map-append}
use Rattle.std.specs.List.{flat_map}
use Rattle.rows_core.specs.Rows.{Cells}
use Rattle.symmetric_join.specs.declared.fed.Fed.{Fed}
use Rattle.symmetric_join.specs.Joins.{met, rows_at}
use Rattle.std.specs.Prelude.{slice_get}
use Rattle.std.specs.Option.{option_to_list}
use Rattle.std.proofs.lemmas.Option.{slice_get-get_or}
use Rattle.std.proofs.lemmas.List.Elements.{filter-append}

pub one_more : {X Y : Type 0} (f : X → List Y) (xs : List X) (i : ℕ) (d : X) → i < length xs → flat_map f (take (i + 1) xs) ≡ flat_map f (take i xs) ++ f (get_or xs i d)
one_more f xs i d h = ap (flat_map f) (take_more xs i d h) ∙ flat_map-append f (take i xs) (get_or xs i d ∷ []) ∙ ap (λ l. flat_map f (take i xs) ++ l) (append-nil (f (get_or xs i d)))

pub met_more : (fed : Fed) (row : Cells) (others : List Cells) (i : ℕ) (d : Cells) → i < length others → flat_map (met fed row) (take (i + 1) others) ≡ flat_map (met fed row) (take i others) ++ met fed row (get_or others i d)
met_more fed row others i d h = one_more (met fed row) others i d h

pub met_more_at : (fed : Fed) (row : Cells) (others : List Cells) (places : List ℕ) (i d : ℕ) (e : Cells) → i < length places → get_or places i d < length others
    → flat_map (met fed row) (rows_at others (take (i + 1) places)) ≡ flat_map (met fed row) (rows_at others (take i places)) ++ met fed row (get_or others (get_or places i d) e)
met_more_at fed row others places i d e h w =
    let there : rows_at others (take (i + 1) places) ≡ rows_at others (take i places) ++ get_or others (get_or places i d) e ∷ [] =
    one_more (λ place. option_to_list (slice_get others place)) places i d h ∙ ap (λ (o : Option Cells). rows_at others (take i places) ++ option_to_list o) (slice_get-get_or others (get_or places i d) e w) in
    ap (flat_map (met fed row)) there
    ∙ (flat_map-append (met fed row) (rows_at others (take i places)) (get_or others (get_or places i d) e ∷ [])
    ∙ ap (λ (l : List Cells). flat_map (met fed row) (rows_at others (take i places)) ++ l) (append-nil (met fed row (get_or others (get_or places i d) e))))

-- one number more of those that pass a test

filter_one : {X : Type 0} (p : X → Bool) (xs : List X) (i : ℕ) (d : X) → i < length xs → filter p (take (i + 1) xs) ≡ filter p (take i xs) ++ filter p (get_or xs i d ∷ [])
filter_one p xs i d h = ap (filter p) (take_more xs i d h) ∙ filter-append p (take i xs) (get_or xs i d ∷ [])

pub kept_more : (p : ℕ → Bool) (xs : List ℕ) (i d : ℕ) → i < length xs → p (get_or xs i d) ≡ true → filter p (take (i + 1) xs) ≡ filter p (take i xs) ++ get_or xs i d ∷ []
kept_more p xs i d h e = filter_one p xs i d h ∙ ap (λ (b : Bool). filter p (take i xs) ++ cond b (get_or xs i d ∷ []) []) e

pub dropped_more : (p : ℕ → Bool) (xs : List ℕ) (i d : ℕ) → i < length xs → p (get_or xs i d) ≡ false → filter p (take (i + 1) xs) ≡ filter p (take i xs)
dropped_more p xs i d h e = filter_one p xs i d h ∙ (ap (λ (b : Bool). filter p (take i xs) ++ cond b (get_or xs i d ∷ []) []) e ∙ append-nil (filter p (take i xs)))

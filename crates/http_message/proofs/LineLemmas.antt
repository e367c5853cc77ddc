-- Where heads end when bytes come in pieces.
use Rattle.std.proofs.Common.{◌≡◌, ℕ, ◌+◌, ◌<◌, ◌≤◌, ◌⊎◌, inl, inr, ⊎_elim, Bool, true, false, cond, List, [], ◌∷◌, ◌++◌, length, take, refl, ap, ◌∙◌, arith, length-append, append_assoc, add-one, zero-add}
use Rattle.std.specs.Prelude.{Option, Some, None, option_map}
use Rattle.http_message.specs.declared.lines.Place.{Place}
use Rattle.http_message.specs.declared.lines.Scan.{Scan}
use Rattle.http_message.specs.declared.lines.Scan.TheVariants.{End, At}
use Rattle.std.proofs.lemmas.List.{length-take-le}
use Rattle.http_message.specs.Lines.{next_place, ends_empty, end_from, place_after, scan_from, IsScan}

map_some : (o : Option ℕ) (k : ℕ) → option_map (λ n. n + 1) o ≡ Some k → (m : ℕ) × (o ≡ Some m) × (k ≡ m + 1)
map_some None k e = absurd (cc)
map_some (Some m) k e = (m, refl, cc)

map_none : (o : Option ℕ) → option_map (λ n. n + 1) o ≡ None → o ≡ None
map_none None e = refl
map_none (Some m) e = absurd (cc)

chosen : {A : Type 0} (b : Bool) (x y z : A) → cond b x y ≡ z → ((b ≡ true) × (x ≡ z)) ⊎ ((b ≡ false) × (y ≡ z))
chosen true x y z e = inl (refl, e)
chosen false x y z e = inr (refl, e)

pub end_within : (p : Place) (bytes : List ℕ) (k : ℕ) → end_from p bytes ≡ Some k → (0 < k) × (k ≤ length bytes)
end_within p [] k e = absurd (cc)
end_within p (b ∷ bs) k e =
    ⊎_elim
    (λ w. let one : 1 ≡ k = cc w.1 in (omega arith, omega arith))
    (λ w.
    let m = map_some (end_from (next_place p b) bs) k w.1 in
    let later = end_within (next_place p b) bs m.0 m.1 in
    (omega (arith, m.2), omega (arith, m.2, later.1)))
    (chosen (ends_empty p b) (Some 1) (option_map (λ n. n + 1) (end_from (next_place p b) bs)) (Some k) e)

-- what comes after the end of a head does not move it
pub end_kept : (p : Place) (bytes more : List ℕ) (k : ℕ) → end_from p bytes ≡ Some k → end_from p (take k bytes ++ more) ≡ Some k
end_kept p [] more k e = absurd (cc)
end_kept p (b ∷ bs) more k e =
    ⊎_elim
    (λ w. let one : k ≡ 1 = cc w.1 in rw one (rw w.0 refl))
    (λ w.
    let m = map_some (end_from (next_place p b) bs) k w.1 in
    let later = end_kept (next_place p b) bs more m.0 m.1 in
    rw (m.2, add-one) (rw (w.0, later) (rw add-one refl)))
    (chosen (ends_empty p b) (Some 1) (option_map (λ n. n + 1) (end_from (next_place p b) bs)) (Some k) e)

-- where no head has ended in xs, one ends in ys where it does from the place after xs
pub end_later : (p : Place) (xs ys : List ℕ) (k : ℕ) → end_from p xs ≡ None → end_from (place_after p xs) ys ≡ Some k → end_from p (xs ++ ys) ≡ Some (length xs + k)
end_later p [] ys k none e = rw (zero-add k) e
end_later p (b ∷ bs) ys k none e =
    ⊎_elim
    (λ w. absurd (cc w.1))
    (λ w.
    let later = end_later (next_place p b) bs ys k (map_none (end_from (next_place p b) bs) w.1) e in
    let sum : length bs + k + 1 ≡ length (b ∷ bs) + k = omega arith in
    rw (w.0, later) (ap Some sum))
    (chosen (ends_empty p b) (Some 1) (option_map (λ n. n + 1) (end_from (next_place p b) bs)) None none)

pub end_not_yet : (p : Place) (xs ys : List ℕ) → end_from p xs ≡ None → end_from (place_after p xs) ys ≡ None → end_from p (xs ++ ys) ≡ None
end_not_yet p [] ys none e = e
end_not_yet p (b ∷ bs) ys none e =
    ⊎_elim
    (λ w. absurd (cc w.1))
    (λ w.
    let later = end_not_yet (next_place p b) bs ys (map_none (end_from (next_place p b) bs) w.1) e in
    rw (w.0, later) refl)
    (chosen (ends_empty p b) (Some 1) (option_map (λ n. n + 1) (end_from (next_place p b) bs)) None none)

pub place_after-append : (p : Place) (xs ys : List ℕ) → place_after p (xs ++ ys) ≡ place_after (place_after p xs) ys
place_after-append p [] ys = refl
place_after-append p (b ∷ bs) ys = place_after-append (next_place p b) bs ys

IsScanFrom : ℕ → Place → List ℕ → Scan → Type 0
IsScanFrom i p bytes (End k) = (m : ℕ) × (k ≡ i + m) × (end_from p bytes ≡ Some m)
IsScanFrom i p bytes (At q) = (end_from p bytes ≡ None) × (place_after p bytes ≡ q)

scan_cons : (i : ℕ) (p : Place) (b : ℕ) (bs : List ℕ) (s : Scan) → ends_empty p b ≡ false → IsScanFrom (i + 1) (next_place p b) bs s → IsScanFrom i p (b ∷ bs) s
unfolding IsScanFrom
scan_cons i p b bs (End k) test w = (w.0 + 1, omega (arith, w.1), rw (test, w.2) refl)
scan_cons i p b bs (At q) test w = (rw (test, w.0) refl, w.1)

scan_tells : (i : ℕ) (p : Place) (bytes : List ℕ) → IsScanFrom i p bytes (scan_from i p bytes)
unfolding IsScanFrom
scan_tells i p [] = (refl, refl)
scan_tells i p (b ∷ bs) =
    elim (ends_empty p b) as (λ t. ends_empty p b ≡ t → IsScanFrom i p (b ∷ bs) (cond t (End (i + 1)) (scan_from (i + 1) (next_place p b) bs))) [
      | true ↦ λ e. (1, refl, rw e refl)
      | false ↦ λ e. scan_cons i p b bs (scan_from (i + 1) (next_place p b) bs) e (scan_tells (i + 1) (next_place p b) bs)
    ] refl

is_scan : (p : Place) (bytes : List ℕ) (s : Scan) → IsScanFrom 0 p bytes s → IsScan p bytes s
unfolding IsScanFrom
is_scan p bytes (End k) w =
    let same : w.0 ≡ k = omega (arith, w.1) in
    let e : end_from p bytes ≡ Some k = w.2 ∙ ap Some same in
    let in_it = end_within p bytes k e in
    (e, in_it.0, in_it.1)
is_scan p bytes (At q) w = w

pub scan_is : (p : Place) (bytes : List ℕ) → IsScan p bytes (scan_from 0 p bytes)
scan_is p bytes = is_scan p bytes (scan_from 0 p bytes) (scan_tells 0 p bytes)

-- a head that ends in a piece ends where the piece's bytes so far end, whatever follows
pub whole_end : (p : Place) (head piece more : List ℕ) (m : ℕ) → end_from p head ≡ None → end_from (place_after p head) piece ≡ Some m
    → end_from p ((head ++ take m piece) ++ more) ≡ Some (length (head ++ take m piece))
whole_end p head piece more m none e =
    let within = end_within (place_after p head) piece m e in
    let long : length head + m ≡ length (head ++ take m piece) = rw (length-append, length-take-le m piece within.1) refl in
    rw append_assoc (end_later p head (take m piece ++ more) m none (end_kept (place_after p head) piece more m e) ∙ ap Some long)

-- One more name of a head.
use Rattle.std.proofs.Common.{◌≡◌, ℕ, zero, suc, Bool, false, ◌+◌, ◌<◌, List, [], ◌∷◌, ◌++◌, length, get_or, take, refl, sym, ap, ◌∙◌, arith, append_assoc}
use Rattle.std.specs.Prelude.{map, codes, ◌==◌, if◌then◌else◌}
use Rattle.std.specs.List.{join_with_byte}
use Rattle.std.proofs.lemmas.List.{take_more, map-append, length-map}
use Rattle.std.proofs.Common.{length-take}
use Rattle.std.proofs.lemmas.Bool.Decides.{nat_tests}
use Rattle.json.specs.Print.{quoted}

-- a text more, behind one or more others
pub join-push : (c : ℕ) (x : List ℕ) (xs : List (List ℕ)) (y : List ℕ) → join_with_byte c ((x ∷ xs) ++ y ∷ []) ≡ join_with_byte c (x ∷ xs) ++ c ∷ y
join-push c x [] y = refl
join-push c x (z ∷ zs) y =
    ap (λ (t : List ℕ). x ++ (c ∷ t)) (join-push c z zs y) ∙ sym (append_assoc x (c ∷ join_with_byte c (z ∷ zs)) (c ∷ y))

pub names_first : (names : List (List ℕ)) (n : List ℕ) → 0 < length names → n ≡ get_or names 0 n → join_with_byte 44 (map quoted (take 1 names)) ≡ quoted n
names_first [] n l e = absurd (omega arith)
names_first (x ∷ names) n l e = ap quoted (sym e)

join_more : (xs : List (List ℕ)) (y : List ℕ) → 0 < length xs → join_with_byte 44 (xs ++ y ∷ []) ≡ join_with_byte 44 xs ++ 44 ∷ y
join_more [] y l = absurd (omega arith)
join_more (x ∷ xs) y l = join-push 44 x xs y

pub names_more : (names : List (List ℕ)) (i : ℕ) (n : List ℕ) → 0 < i → i < length names → n ≡ get_or names i n → join_with_byte 44 (map quoted (take (i + 1) names)) ≡ join_with_byte 44 (map quoted (take i names)) ++ 44 ∷ quoted n
names_more names i n some l e =
    let grown = take_more names i n l in
    ap (λ (t : List (List ℕ)). join_with_byte 44 (map quoted t)) grown ∙ (ap (join_with_byte 44) (map-append quoted (take i names) (get_or names i n ∷ [])) ∙ (join_more (map quoted (take i names)) (quoted (get_or names i n)) (omega (arith, length-map (take i names) quoted, length-take i names)) ∙ ap (λ m. join_with_byte 44 (map quoted (take i names)) ++ 44 ∷ quoted m) (sym e)))

not_first : (i : ℕ) → (suc i == 0) ≡ false
not_first i = grind (arith, nat_tests)

-- one name more, behind what parts it from the one before
pub names_next : (names : List (List ℕ)) (i : ℕ) (n : List ℕ) → i < length names → n ≡ get_or names i n → join_with_byte 44 (map quoted (take (i + 1) names)) ≡ (join_with_byte 44 (map quoted (take i names)) ++ (if i == 0 then codes "" else codes ",")) ++ quoted n
names_next names zero n l e = names_first names n l e
names_next names (suc i) n l e =
    let some : 0 < suc i = omega arith in
    let front = join_with_byte 44 (map quoted (take (suc i) names)) in
    names_more names (suc i) n some l e ∙ (sym (append_assoc front (codes ",") (quoted n)) ∙ ap (λ (b : Bool). (front ++ (if b then codes "" else codes ",")) ++ quoted n) (sym (not_first i)))

-- The first of the words.
use Rattle.std.proofs.Common.{ℕ, ◌≡◌, ◌<◌, ◌≤◌, List, [], ◌∷◌, None, refl, ap, arith, get_or, length}
use Rattle.std.specs.Prelude.{map}
use Rattle.command_words.specs.Words.{command_named, command_of}

pub no_words : {X : Type 0} (f : X → List ℕ) (xs : List X) → length xs < 1 → None ≡ command_of (map f xs)
unfolding command_of
no_words f [] none = refl
no_words f (x ∷ xs) none = absurd (omega arith)

pub first_named : {X : Type 0} (f : X → List ℕ) (xs : List X) (x : X) → 1 ≤ length xs → x ≡ get_or xs 0 x → command_named (f x) (map f xs) ≡ command_of (map f xs)
unfolding command_of
first_named f [] x some is = absurd (omega arith)
first_named f (y ∷ ys) x some is = ap (λ z. command_named (f z) (map f (y ∷ ys))) is

-- How an automaton finds the longest token, for any automaton.
use Rattle.std.specs.Prelude.{◌≡◌, ℕ, suc, ◌+◌, ◌<◌, List, [], ◌∷◌, take, drop, Option, Some, None}
use Rattle.terminals.specs.declared.class.Class.{Class}
use Rattle.terminals.specs.Utf8.{Symbol, width_of}

-- what the option holds, or else
abbrev pub on_some : {A B : Type 0} → Option A → B → (A → B) → B
on_some None none go = none
on_some (Some x) none go = go x

-- the kind that ends here, or the best before
abbrev pub better : {K : Type 0} → Option K → ℕ → Option (K × ℕ) → Option (K × ℕ)
better None at best = best
better (Some k) at best = Some (k, at)

-- the last kind that ends on the way of the automaton over the characters, and where; or the best before
unfoldable pub scan : {S K : Type 0} → (S → Class → Option S) → (S → Option K) → S → ℕ → Option (K × ℕ) → List Symbol → Option (K × ℕ)
scan stepped kind_of s at best [] = best
scan stepped kind_of s at best (x ∷ xs) =
    on_some (stepped s x.class) best (λ next. scan stepped kind_of next (at + suc x.extra) (better (kind_of next) (at + suc x.extra) best) xs)

-- from this state no token ends in the characters
abbrev pub IsLost : {S K : Type 0} → (S → Class → Option S) → (S → Option K) → S → ℕ → List Symbol → Type 0
IsLost {S} {K} stepped kind_of s at xs = (best : Option (K × ℕ)) → scan stepped kind_of s at best xs ≡ best

-- from this state no token ends, wherever before `no_colon_before` it is entered
abbrev pub NoColonBefore : {S K : Type 0} → (S → Class → Option S) → (S → Option K) → S → ℕ → ℕ → List Symbol → Type 0
NoColonBefore stepped kind_of s no_colon_before at xs = (n : ℕ) → at + width_of (take n xs) < no_colon_before → IsLost stepped kind_of s (at + width_of (take n xs)) (drop n xs)

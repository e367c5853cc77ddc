-- The part before the first byte that passes a test.
use Rattle.std.proofs.Common.{ℕ, ◌≡◌, ◌≤◌, List, Bool, true, false, Some, None, cond, not, refl, ap, sym, ◌∙◌, arith, length, take}
use Rattle.std.specs.Prelude.{nat_lt}
use Rattle.std.specs.List.{position, position_or_len, before_first}
use Rattle.std.proofs.lemmas.List.Sums.{prefix_len-le-length}
use Rattle.std.proofs.lemmas.Bool.Decides.{nat_tests}
use Rattle.std.proofs.Math.Seq.{take-length}
use Rattle.std.proofs.lemmas.Option.{same_Some}

-- a place found is where the part ends
pub take_found : (p : ℕ → Bool) (xs : List ℕ) (i : ℕ) → position p xs ≡ Some i → take i xs ≡ before_first p xs
take_found p xs i found = ap (λ n. take n xs) (sym (by (nat_lt (position_or_len p xs) (length xs)) found))
  where
    by : (b : Bool) → cond b (Some (position_or_len p xs)) None ≡ Some i → position_or_len p xs ≡ i
    by true h = same_Some _ _ h
    by false h = cc

-- with no place found the part is all
pub take_all : (p : ℕ → Bool) (xs : List ℕ) → position p xs ≡ None → xs ≡ before_first p xs
take_all p xs none =
    let at_most : position_or_len p xs ≤ length xs = prefix_len-le-length (λ x. not (p x)) xs in
    let at_least = by (nat_lt (position_or_len p xs) (length xs)) refl none in
    let is : position_or_len p xs ≡ length xs = grind (arith, nat_tests) in
    sym (ap (λ n. take n xs) is ∙ take-length xs)
  where
    by : (b : Bool) → nat_lt (position_or_len p xs) (length xs) ≡ b → cond b (Some (position_or_len p xs)) None ≡ None → nat_lt (position_or_len p xs) (length xs) ≡ false
    by true e h = cc
    by false e h = e

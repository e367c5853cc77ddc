-- A number that is written on by further digits.
use Rattle.std.specs.Prelude.{ℕ, ◌+◌, ◌*◌, ◌^◌, List, length}
use Rattle.value_core.specs.Digits.{whole_of}

-- the number that is written by what writes n, and then the digits
unfoldable pub number_after : ℕ → List ℕ → ℕ
number_after n digits = n * 10 ^ length digits + whole_of digits

-- What the one half of a connection leaves of the other.
use Rattle.std.specs.Prelude.{ℕ, List, Some}
use Rattle.std.specs.declared.option.Option.{Option}

-- told bytes, and a count of faults
abbrev pub apart_of : List ℕ → ℕ → Option (List ℕ) × ℕ
apart_of bytes faults = (Some bytes, faults)

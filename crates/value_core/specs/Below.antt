-- Numbers below a limit.
use Rattle.std.specs.Prelude.{ℕ, nat_lt, if◌then◌else◌, Option, Some, None}

abbrev pub below : ℕ → Option ℕ → Option ℕ
below limit None = None
below limit (Some n) = if nat_lt n limit then Some n else None

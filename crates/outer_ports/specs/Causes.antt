-- When a count has risen. One that is kept in a u64 stands still at its end, and counts as risen there.
use Rattle.std.specs.Prelude.{ℕ, ◌≡◌, ◌+◌, ◌-◌, ◌^◌, ◌≤◌, min}

-- the count after one more
abbrev pub one_more : ℕ → ℕ
one_more n = min (n + 1) (2 ^ 64 - 1)

-- it has risen by exactly one, or stands at the greatest u64
abbrev pub RoseOnce : ℕ → ℕ → Type 0
RoseOnce before now = now ≡ one_more before

-- it has risen, or stands at the greatest u64
abbrev pub Rose : ℕ → ℕ → Type 0
Rose before now = min (before + 1) (2 ^ 64 - 1) ≤ now

-- Counts of faults, by themselves and by their cause.
use Rattle.std.specs.Prelude.{ℕ, ◌+◌, ◌-◌, ◌^◌, ◌≤◌, min}
use Rattle.reachability.specs.declared.record.Cause.{Cause}
use Rattle.reachability.specs.declared.record.Cause.TheVariants.{Connect, Broken, Cut, Silent}
use Rattle.web_port.specs.declared.losses.Losses.{Losses}

-- a count rose by so much, or stands at the greatest u64
pub record RoseBy (before by now : ℕ) : Type 0 where
  pub later : before ≤ now
  pub most : now ≤ before + by
  pub least : min (before + by) (2 ^ 64 - 1) ≤ now

-- how many links were lost by this cause
abbrev pub lost_in : Losses → Cause → ℕ
lost_in losses Connect = losses.connect
lost_in losses Broken = losses.broken
lost_in losses Cut = losses.cut
lost_in losses Silent = losses.silent

abbrev pub no_losses : Losses
no_losses = record { connect = 0; broken = 0; cut = 0; silent = 0 }

-- one more link was lost by this cause
abbrev pub one_more : Losses → Cause → Losses
one_more losses Connect = record losses { connect = losses.connect + 1 }
one_more losses Broken = record losses { broken = losses.broken + 1 }
one_more losses Cut = record losses { cut = losses.cut + 1 }
one_more losses Silent = record losses { silent = losses.silent + 1 }

-- 1 where the second cause is the first, and else 0
abbrev pub is_cause : Cause → Cause → ℕ
is_cause Connect Connect = 1
is_cause Connect Broken = 0
is_cause Connect Cut = 0
is_cause Connect Silent = 0
is_cause Broken Connect = 0
is_cause Broken Broken = 1
is_cause Broken Cut = 0
is_cause Broken Silent = 0
is_cause Cut Connect = 0
is_cause Cut Broken = 0
is_cause Cut Cut = 1
is_cause Cut Silent = 0
is_cause Silent Connect = 0
is_cause Silent Broken = 0
is_cause Silent Cut = 0
is_cause Silent Silent = 1

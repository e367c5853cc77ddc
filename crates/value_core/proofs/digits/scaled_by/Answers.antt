use Rattle.std.proofs.Common.{refl, length, ◌-◌, ◌++◌, ◌^◌}
use Rattle.value_core.specs.Digits.{whole_of}
use Rattle.value_core.proofs.AfterLemmas.{ten_pos}
use Rattle.value_core.proofs.ScaledLemmas.{past_limit}
use Rattle.value_core.proofs.digits.scaled_by.Goals as goal

pub returns-in-None : goal.returns-in-None
returns-in-None c =
    let kept = c.args.kept.now in
    let places = 18 - length kept in
    rw (past_limit (whole_of (c.args.front.now ++ kept)) (10 ^ places) c.in-None.ensures (ten_pos places)) refl

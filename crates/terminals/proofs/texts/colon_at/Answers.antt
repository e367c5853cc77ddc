use Rattle.terminals.proofs.Decoding.{place_is, end_is}
use Rattle.terminals.proofs.texts.colon_at.Goals as goal
use Rattle.std.proofs.Common.{sym, ◌==◌}

pub returns-in-Some : goal.returns-in-Some
returns-in-Some c = place_is (λ b. b == 58) c.args.bytes.now c.in-Some.at c.in-Some.ensures

pub returns-in-None : goal.returns-in-None
returns-in-None c = end_is (λ b. b == 58) c.args.bytes.now c.in-None.ensures

use Rattle.std.proofs.Common.{subst, ℕ}
use Rattle.std.specs.Prelude.{Some}
use Rattle.http_message.specs.Body.{undecided}
use Rattle.http_message.specs.Reading.{Reads}
use Rattle.fetch_lane.proofs.ResponseLemmas.{ended_heard}
use Rattle.fetch_lane.proofs.receiving.finish.Goals as goal

pub returns-in-Done-clause-heard : goal.returns-in-Done-clause-heard
returns-in-Done-clause-heard g c =
    let e = c.requires.ended in
    let lane = c.args.lane.now in
    ended_heard lane.limit (g.W.Wire.sure c.args.wire.now) (g.W.Wire.hosts c.args.wire.now) lane.host lane.port lane.request e.fed c.in-Done.heard e.begun e.whole
    (subst (λ (l : ℕ). Reads l e.fed (undecided (Some c.in-Done.heard))) e.reading.same_limit (c.in-Done.ensures.ends e.fed e.reading.read))

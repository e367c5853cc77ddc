use Rattle.std.proofs.Common.{rules, ◌<◌, length}
use Rattle.traverse_core.proofs.Sharing.{taken_out, taken_fresh, begun, begun_on, in_step_of}
use Rattle.traverse_core.proofs.turns.begin.Goals as goal

pub start_taken-requires-clause-out : goal.start_taken-requires-clause-out
start_taken-requires-clause-out g c = taken_out g.J.Job.run c.args.run.now _ _ c.in-Some.ensures.number c.in-Some.ensures.some

pub start_taken-requires-clause-fresh : goal.start_taken-requires-clause-fresh
start_taken-requires-clause-fresh g c = taken_fresh g.J.Job.run c.args.run.now _ _ c.in-Some.ensures.number c.requires.step.shared

pub returns-in_ok-start_taken-in-Some-clause-on : goal.returns-in_ok-start_taken-in-Some-clause-on
returns-in_ok-start_taken-in-Some-clause-on g c =
    begun_on g.J.Job.run c.args.run.now c.take.new.self c.start_taken.new.run (g.F.Fetcher.port c.args.fetcher.now) (g.F.Fetcher.port c.start_taken.new.fetcher) c.in-Some.number
    c.requires.ready.runs c.in-Some.ensures.number c.in-Some.ensures.some c.in_ok-start_taken-in-Some.ensures.ok

pub returns-in_ok-start_taken-in-Some-clause-step : goal.returns-in_ok-start_taken-in-Some-clause-step
returns-in_ok-start_taken-in-Some-clause-step g c = λ _.
    let room : length (g.F.Fetcher.port c.args.fetcher.now).flights < g.F.Fetcher.lanes c.args.fetcher.now = let r = c.room.ensures.room in search rules in
    in_step_of g.J.Job.run _ _ _ _ _ _ c.in_ok-start_taken-in-Some.ensures.same
    (begun g.J.Job.run (g.F.Fetcher.fetch c.args.fetcher.now) (g.F.Fetcher.lanes c.args.fetcher.now) c.args.run.now c.take.new.self c.start_taken.new.run (g.F.Fetcher.port c.args.fetcher.now) (g.F.Fetcher.port c.start_taken.new.fetcher) c.in-Some.number
    c.in-Some.ensures.number c.in-Some.ensures.some c.requires.step room c.in_ok-start_taken-in-Some.ensures.ok).step

pub returns-in_ok-start_taken-in-Some-clause-turn : goal.returns-in_ok-start_taken-in-Some-clause-turn
returns-in_ok-start_taken-in-Some-clause-turn g c = λ _.
    let room : length (g.F.Fetcher.port c.args.fetcher.now).flights < g.F.Fetcher.lanes c.args.fetcher.now = let r = c.room.ensures.room in search rules in
    (begun g.J.Job.run (g.F.Fetcher.fetch c.args.fetcher.now) (g.F.Fetcher.lanes c.args.fetcher.now) c.args.run.now c.take.new.self c.start_taken.new.run (g.F.Fetcher.port c.args.fetcher.now) (g.F.Fetcher.port c.start_taken.new.fetcher) c.in-Some.number
    c.in-Some.ensures.number c.in-Some.ensures.some c.requires.step room c.in_ok-start_taken-in-Some.ensures.ok).turn

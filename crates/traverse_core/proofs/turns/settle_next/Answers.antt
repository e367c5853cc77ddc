use Rattle.traverse_core.proofs.Sharing.{landed_here, may_settle, settled_on, settled_turn, in_step_of}
use Rattle.traverse_core.proofs.turns.settle_next.Goals as goal

pub settle_got-requires-clause-out : goal.settle_got-requires-clause-out
settle_got-requires-clause-out g c =
    let l = rw c.in-Some.is at c.in_ok-next_landed.ensures.ok in
    let x = landed_here g.J.Job.run (g.F.Fetcher.fetch c.args.fetcher.now) (g.F.Fetcher.lanes c.args.fetcher.now) c.args.run.now (g.F.Fetcher.port c.args.fetcher.now) (g.F.Fetcher.port c.next_landed.new.fetcher) c.in-Some.number c.in-Some.got c.args.body c.room-room.ensures.some.1 c.requires.body c.in_flight-in_flight.ensures.kept c.requires.step l in
    x.out

pub settle_got-requires-clause-may : goal.settle_got-requires-clause-may
settle_got-requires-clause-may g c =
    let l = rw c.in-Some.is at c.in_ok-next_landed.ensures.ok in
    let x = landed_here g.J.Job.run (g.F.Fetcher.fetch c.args.fetcher.now) (g.F.Fetcher.lanes c.args.fetcher.now) c.args.run.now (g.F.Fetcher.port c.args.fetcher.now) (g.F.Fetcher.port c.next_landed.new.fetcher) c.in-Some.number c.in-Some.got c.args.body c.room-room.ensures.some.1 c.requires.body c.in_flight-in_flight.ensures.kept c.requires.step l in
    may_settle g.J.Job.run _ _ _ _ x

pub returns-in_ok-settle_got-in-Some-clause-on : goal.returns-in_ok-settle_got-in-Some-clause-on
returns-in_ok-settle_got-in-Some-clause-on g c =
    let l = rw c.in-Some.is at c.in_ok-next_landed.ensures.ok in
    let x = landed_here g.J.Job.run (g.F.Fetcher.fetch c.args.fetcher.now) (g.F.Fetcher.lanes c.args.fetcher.now) c.args.run.now (g.F.Fetcher.port c.args.fetcher.now) (g.F.Fetcher.port c.next_landed.new.fetcher) c.in-Some.number c.in-Some.got c.args.body c.room-room.ensures.some.1 c.requires.body c.in_flight-in_flight.ensures.kept c.requires.step l in
    settled_on g.J.Job.run c.args.run.now c.settle_got.new.run c.in-Some.number c.in-Some.got c.args.body c.requires.ready.runs x c.in_ok-settle_got-in-Some.ensures.ok

pub returns-in_ok-settle_got-in-Some-clause-step : goal.returns-in_ok-settle_got-in-Some-clause-step
returns-in_ok-settle_got-in-Some-clause-step g c = λ _.
    let l = rw c.in-Some.is at c.in_ok-next_landed.ensures.ok in
    let w = settled_turn g.J.Job.run (g.F.Fetcher.fetch c.args.fetcher.now) (g.F.Fetcher.lanes c.args.fetcher.now) c.args.run.now c.settle_got.new.run (g.F.Fetcher.port c.args.fetcher.now) (g.F.Fetcher.port c.next_landed.new.fetcher) c.in-Some.number c.in-Some.got c.args.body c.room-room.ensures.some.1 c.requires.body c.in_flight-in_flight.ensures.kept c.requires.step l c.in_ok-settle_got-in-Some.ensures.ok in
    in_step_of g.J.Job.run _ _ _ _ _ _ c.in_ok-next_landed.ensures.same w.step

pub returns-in_ok-settle_got-in-Some-clause-turn : goal.returns-in_ok-settle_got-in-Some-clause-turn
returns-in_ok-settle_got-in-Some-clause-turn g c = λ _.
    let l = rw c.in-Some.is at c.in_ok-next_landed.ensures.ok in
    let w = settled_turn g.J.Job.run (g.F.Fetcher.fetch c.args.fetcher.now) (g.F.Fetcher.lanes c.args.fetcher.now) c.args.run.now c.settle_got.new.run (g.F.Fetcher.port c.args.fetcher.now) (g.F.Fetcher.port c.next_landed.new.fetcher) c.in-Some.number c.in-Some.got c.args.body c.room-room.ensures.some.1 c.requires.body c.in_flight-in_flight.ensures.kept c.requires.step l c.in_ok-settle_got-in-Some.ensures.ok in
    w.turn

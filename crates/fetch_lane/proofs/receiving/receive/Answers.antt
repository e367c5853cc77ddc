use Rattle.std.proofs.Common.{◌≡◌, List, subst, sym, ap, ◌∙◌}
use Rattle.std.specs.Prelude.{Option, Ok, true, Bool}
use Rattle.outer_ports.specs.declared.host.Host.{Host}
use Rattle.fetch_lane.specs.declared.lane.Lane.{Lane}
use Rattle.fetch_lane.specs.declared.lane.Stage.TheVariants as S
use Rattle.fetch_lane.specs.Lanes.{IsReceiving}
use Rattle.fetch_lane.specs.Responses.{IsHeardOver}
use Rattle.fetch_lane.specs.Went.{IsHeld}
use Rattle.fetch_lane.proofs.LaneLemmas.{took_lane, took_moved, took_held, end_counted, on_err_of}
use Rattle.fetch_lane.proofs.receiving.receive.Goals as goal

pub read_held-requires-clause-receiving : goal.read_held-requires-clause-receiving
read_held-requires-clause-receiving g c =
    let is = c.requires.receiving in
    let lane = c.args.lane.now in
    let old = g.W.Wire.hosts c.args.wire.now in
    let same : g.W.Wire.hosts c.recv.new.self ≡ old = c.recv.ensures.same.0 in
    let now : Lane = record lane { silent = 0; stage = S.Receiving c.args.conn c.in-Took.count } in (
      true,
      subst (λ (h : Option (List Host)). IsReceiving h c.recv.new.buf (g.W.Wire.conns c.recv.new.self) now true c.args.conn c.in-Took.count) (sym same)
          (took_lane old c.recv.new.buf (g.W.Wire.conns c.args.wire.now) (g.W.Wire.conns c.recv.new.self) lane c.args.conn c.in-Took.count is (c.in-Took.ensures.receives _ is.is_open) c.recv.ensures.prefix),
    )

pub returns-in_err-read_held-in-Took-clause-held : goal.returns-in_err-read_held-in-Took-clause-held
returns-in_err-read_held-in-Took-clause-held g c =
    let is = c.requires.receiving in
    let lane = c.args.lane.now in
    let old = g.W.Wire.hosts c.args.wire.now in
    let conns = g.W.Wire.conns c.args.wire.now in
    let last = g.W.Wire.conns c.read_held.new.wire in
    let now : Lane = record lane { silent = 0; stage = S.Receiving c.args.conn c.in-Took.count } in
    let same : g.W.Wire.hosts c.read_held.new.wire ≡ old = c.read_held.ensures.hosts ∙ c.recv.ensures.same.0 in
    let is_held = took_held old c.recv.new.buf conns (g.W.Wire.conns c.recv.new.self) last lane c.args.conn c.in-Took.count is (c.in-Took.ensures.receives _ is.is_open)
    c.recv.ensures.prefix c.in_err-read_held-in-Took.ensures.unmoved (cc) in
    on_err_of c.from_residual.result
    (subst (λ (l : Lane). IsHeld (g.W.Wire.hosts c.read_held.new.wire) c.recv.new.buf c.args.conn lane conns last l) (sym c.in_err-read_held-in-Took.ensures.held)
    (subst (λ (h : Option (List Host)). IsHeld h c.recv.new.buf c.args.conn lane conns last now) (sym same) is_held))

pub returns-in-None-clause-moved : goal.returns-in-None-clause-moved
returns-in-None-clause-moved g c =
    let is = c.requires.receiving in
    let stays = c.in_ok-read_held-in-Took.ensures.stays (ap (λ o. Ok o) c.in-None.is) in
    let more = c.in_ok-read_held-in-Took.ensures.more (ap (λ o. Ok o) c.in-None.is) in
    let took = c.in-Took.ensures.receives _ is.is_open in
    took_moved (g.W.Wire.conns c.args.wire.now) (g.W.Wire.conns c.read_held.new.wire) c.args.lane.now.stage c.read_held.new.lane.stage _ c.recv.new.buf c.args.conn c.in-Took.count
    (cc) is.is_open (took.0, took.1, stays ∙ took.2) more.is_open

pub returns-in-Some-clause-heard : goal.returns-in-Some-clause-heard
returns-in-Some-clause-heard g c =
    let lane = c.args.lane.now in
    let heard = c.in_ok-read_held-in-Took.ensures.heard c.in-Some.heard (ap (λ o. Ok o) c.in-Some.is) in
    let one = subst (λ (s : Bool). IsHeardOver lane.limit s (g.W.Wire.hosts c.recv.new.self) lane.host lane.port lane.request c.in-Some.heard) c.recv.ensures.same.1 heard in
    subst (λ (h : Option (List Host)). IsHeardOver lane.limit (g.W.Wire.sure c.args.wire.now) h lane.host lane.port lane.request c.in-Some.heard) c.recv.ensures.same.0 one

pub returns-in-End-clause-counts : goal.returns-in-End-clause-counts
returns-in-End-clause-counts g c =
    let same = c.finish.ensures.counts in
    let counts = c.in-End.ensures.counts _ c.requires.receiving.is_open in
    end_counted c.finish.result (g.W.Wire.counts c.args.wire.now) (g.W.Wire.counts c.finish.new.wire) c.finish.ensures.finished (rw same counts)

use Rattle.std.proofs.Common.{◌≡◌, ◌++◌, ℕ, take, subst}
use Rattle.link_uri.specs.declared.heard.Heard.{Heard}
use Rattle.http_message.specs.declared.reading.Fed.{Fed}
use Rattle.http_message.specs.Body.{decided}
use Rattle.http_message.specs.Reading.{Reads}
use Rattle.http_message.specs.Views.{Gives}
use Rattle.fetch_lane.specs.Responses.{IsHeardOver}
use Rattle.fetch_lane.proofs.ResponseLemmas.{decided_heard}
use Rattle.fetch_lane.proofs.LaneLemmas.{more_lane}
use Rattle.fetch_lane.proofs.receiving.read_held.Goals as goal

pub returns-in-More-clause-more : goal.returns-in-More-clause-more
returns-in-More-clause-more g c = λ e.
    let lane = c.args.lane.now in
    let is = c.requires.receiving.1 in
    let bytes = is.fed ++ take c.args.held c.args.buffer.now in
    let goes = subst (λ (f : Fed). Gives lane.reading.limit bytes f c.feed.new.self) c.in-More.is (c.in_ok-feed.ensures.gives is.fed is.reading.read) in
    more_lane (g.W.Wire.hosts c.args.wire.now) c.args.buffer.now (g.W.Wire.conns c.args.wire.now) lane c.requires.receiving.0 c.args.conn c.args.held c.feed.new.self is goes c.requires.calm

pub returns-in-Done-clause-heard : goal.returns-in-Done-clause-heard
returns-in-Done-clause-heard g c = λ h e.
    let lane = c.args.lane.now in
    let is = c.requires.receiving.1 in
    let bytes = is.fed ++ take c.args.held c.args.buffer.now in
    let settled = subst (λ (f : Fed). Gives lane.reading.limit bytes f c.feed.new.self) c.in-Done.is (c.in_ok-feed.ensures.gives is.fed is.reading.read) in
    let same : c.in-Done.heard ≡ h = cc in
    subst (λ (k : Heard). IsHeardOver lane.limit (g.W.Wire.sure c.args.wire.now) (g.W.Wire.hosts c.args.wire.now) lane.host lane.port lane.request k) same
    (decided_heard lane.limit (g.W.Wire.sure c.args.wire.now) (g.W.Wire.hosts c.args.wire.now) lane.host lane.port lane.request bytes c.in-Done.heard is.begun
    (λ more. subst (λ (l : ℕ). Reads l (bytes ++ more) (decided c.in-Done.heard)) is.reading.same_limit (settled.reads more)))

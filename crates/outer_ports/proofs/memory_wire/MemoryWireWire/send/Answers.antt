use Rattle.std.proofs.Common.{◌≡◌, Some, IsSome, refl, ap, sym, subst, ◌∙◌, ◌++◌, take, rules}
use Rattle.outer_ports.specs.declared.open_conns.OpenConn.{OpenConn}
use Rattle.outer_ports.specs.MemoryWire.{Wiring, BecomesAt, open_in, conns_of}
use Rattle.outer_ports.proofs.MemoryWireLemmas.{some_open, conns_stay, counts_failed, faults_one, since_stays}
use Rattle.outer_ports.proofs.memory_wire.MemoryWireWire.send.Goals as goal

pub returns-then-contains-clause-counts : goal.returns-then-contains-clause-counts
returns-then-contains-clause-counts c =
    rw (← c.self.view_is) (counts_failed c.self.inside.hosts.items c.self.inside.conns c.args.conn c.self.inside.counts c.fail_on.new.counts c.fail_on.ensures.counts)

pub returns-clause-others : goal.returns-clause-others
returns-clause-others c =
    let is = some_open c.args.self.now.hosts c.args.self.now.conns c.args.conn c.requires.is_open in
    let o : OpenConn = is.0 in
    let there : open_in c.self.inside.conns c.args.conn ≡ Some o = ap (λ (w : Wiring). open_in w.conns c.args.conn) c.self.view_is ∙ is.1 in
    let sent : BecomesAt c.self.inside.conns c.args.conn (record o { sent = o.sent ++ take c.min-count.result c.args.piece.now; taken = 0 }) c.add_sent.new.self = search rules in
    rw (← c.self.view_is) (conns_stay c.self.inside.hosts.items _ _ _ _ sent)

pub returns-then-contains-clause-once : goal.returns-then-contains-clause-once
returns-then-contains-clause-once c = λ e.
    let there = subst (λ (w : Wiring). IsSome (conns_of c.args.self.now.hosts w.conns c.args.conn)) (sym c.self.view_is) c.requires.is_open in
    rw (← c.self.view_is) (faults_one c.args.self.now.hosts c.self.inside.conns c.args.conn c.self.inside.counts c.fail_on.new.counts c.fail_on.ensures.counts there)

pub returns-clause-since : goal.returns-clause-since
returns-clause-since c =
    let is = some_open c.args.self.now.hosts c.args.self.now.conns c.args.conn c.requires.is_open in
    let o : OpenConn = is.0 in
    let there : open_in c.self.inside.conns c.args.conn ≡ Some o = ap (λ (w : Wiring). open_in w.conns c.args.conn) c.self.view_is ∙ is.1 in
    let sent : BecomesAt c.self.inside.conns c.args.conn (record o { sent = o.sent ++ take c.min-count.result c.args.piece.now; taken = 0 }) c.add_sent.new.self = search rules in
    rw (← c.self.view_is) (since_stays c.self.inside.conns _ _ o _ there sent refl)

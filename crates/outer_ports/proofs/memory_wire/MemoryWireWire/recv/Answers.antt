use Rattle.std.proofs.Common.{◌≡◌, Some, IsSome, take, refl, inr, ap, sym, subst, ◌∙◌, rules, arith}
use Rattle.outer_ports.specs.Causes.{Rose, one_more}
use Rattle.outer_ports.specs.declared.open_conns.OpenConn.{OpenConn}
use Rattle.outer_ports.specs.declared.wire_counts.WireCounts.{WireCounts}
use Rattle.outer_ports.specs.MemoryWire.{Wiring, left_of, open_in, conns_of}
use Rattle.outer_ports.proofs.MemoryWireLemmas.{some_open, told, took_more, counts_failed, counts_ended, faults_one, rose_one}
use Rattle.outer_ports.proofs.memory_wire.MemoryWireWire.recv.Goals as goal

pub returns-then-contains-clause-counts : goal.returns-then-contains-clause-counts
returns-then-contains-clause-counts c =
    rw (← c.self.view_is) (counts_failed c.self.inside.hosts.items c.self.inside.conns c.args.conn c.self.inside.counts c.fail_on.new.counts c.fail_on.ensures.counts)

pub returns-then-contains-clause-once : goal.returns-then-contains-clause-once
returns-then-contains-clause-once c = λ e.
    let there = subst (λ (w : Wiring). IsSome (conns_of c.args.self.now.hosts w.conns c.args.conn)) (sym c.self.view_is) c.requires.is_open in
    rw (← c.self.view_is) (faults_one c.args.self.now.hosts c.self.inside.conns c.args.conn c.self.inside.counts c.fail_on.new.counts c.fail_on.ensures.counts there)

pub returns-then-contains-clause-prefix : goal.returns-then-contains-clause-prefix
returns-then-contains-clause-prefix c = rw (← c.self.view_is) (told c.self.inside.hosts.items c.fail_on.new.conns c.args.conn)

pub returns-then-contains-2-clause-counts : goal.returns-then-contains-2-clause-counts
returns-then-contains-2-clause-counts c =
    rw (← c.self.view_is) (counts_ended c.self.inside.hosts.items c.self.inside.conns c.args.conn c.add_fault.new.self.faults c.self.inside.counts c.end_on.new.counts (search rules) (λ o e. rw (c.end_on.ensures.counts o e, c.add_fault.ensures) refl))

pub returns-then-contains-2-clause-prefix : goal.returns-then-contains-2-clause-prefix
returns-then-contains-2-clause-prefix c = rw (← c.self.view_is) (told c.self.inside.hosts.items c.end_on.new.conns c.args.conn)

-- a cut adds one fault
cut_one : (c : goal.After-end_on) → c.end_on.new.counts.faults ≡ one_more c.args.self.now.counts.faults
cut_one c =
    let is = some_open c.args.self.now.hosts c.args.self.now.conns c.args.conn c.requires.is_open in
    let there : open_in c.self.inside.conns c.args.conn ≡ Some is.0 = ap (λ (w : Wiring). open_in w.conns c.args.conn) c.self.view_is ∙ is.1 in
    rw (← c.self.view_is) (ap (λ (w : WireCounts). w.faults) (c.end_on.ensures.counts is.0 there) ∙ ap (λ (w : WireCounts). w.faults) c.add_fault.ensures)

faults_rose : (c : goal.After-end_on) → Rose c.args.self.now.counts.faults c.end_on.new.counts.faults
faults_rose c = subst (λ n. Rose c.args.self.now.counts.faults n) (sym (cut_one c)) (rose_one c.args.self.now.counts.faults)

pub returns-then-contains-2-clause-whole : goal.returns-then-contains-2-clause-whole
returns-then-contains-2-clause-whole c = λ x e. inr (search rules, faults_rose c)

pub returns-then-contains-2-clause-cut : goal.returns-then-contains-2-clause-cut
returns-then-contains-2-clause-cut c = λ no yes. (refl, cut_one c)

pub returns-then-count-eq0-clause-counts : goal.returns-then-count-eq0-clause-counts
returns-then-count-eq0-clause-counts c =
    rw (← c.self.view_is) (counts_ended c.self.inside.hosts.items c.self.inside.conns c.args.conn c.self.inside.counts.faults c.self.inside.counts c.end_on-then-count-eq0.new.counts (omega arith) c.end_on-then-count-eq0.ensures.counts)

-- an end that is not to be cut adds none
pub returns-then-count-eq0-clause-calm : goal.returns-then-count-eq0-clause-calm
returns-then-count-eq0-clause-calm c = λ unfailed uncut.
    let is = some_open c.args.self.now.hosts c.args.self.now.conns c.args.conn c.requires.is_open in
    let there : open_in c.self.inside.conns c.args.conn ≡ Some is.0 = ap (λ (w : Wiring). open_in w.conns c.args.conn) c.self.view_is ∙ is.1 in
    rw (← c.self.view_is) (ap (λ (w : WireCounts). w.faults) (c.end_on-then-count-eq0.ensures.counts is.0 there))

pub returns-clause-receives : goal.returns-clause-receives
returns-clause-receives c =
    let o : OpenConn = c.get-open.result.now in
    let took : take c.copy_piece-count.result c.copy_piece-count.new.buf ≡ take c.copy_piece-count.result (left_of c.self.inside.hosts.items o) = search rules in
    rw (← c.self.view_is) (λ x e. (
      omega arith,
      omega arith,
      took_more c.self.inside.hosts.items c.self.inside.conns c.set_taken.new.self c.args.conn c.copy_piece-count.result o c.copy_piece-count.new.buf x c.get-open.ensures took (c.set_taken.ensures o c.get-open.ensures) e,
    ))

pub returns-clause-prefix : goal.returns-clause-prefix
returns-clause-prefix c = rw (← c.self.view_is) (told c.self.inside.hosts.items c.set_taken.new.self c.args.conn)

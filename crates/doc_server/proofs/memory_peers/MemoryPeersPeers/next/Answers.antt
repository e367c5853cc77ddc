use Rattle.std.proofs.Common.{◌≡◌, ◌∙◌, ◌++◌, ◌∷◌, [], ap, arith, length, map}
use Rattle.std.proofs.lemmas.List.{length-map}
use Rattle.std.specs.declared.snapshot.Snapshot.{Snapshot}
use Rattle.doc_server.specs.declared.memory_conn.MemoryConn.{MemoryConn}
use Rattle.doc_server.specs.Memory.{MemoryPeering}
use Rattle.doc_server.proofs.Giving.{gave, gives_first, was_unused}
use Rattle.doc_server.proofs.memory_peers.MemoryPeersPeers.next.Goals as goal

pub invariant_of-self-in-Some : goal.invariant_of-self-in-Some
invariant_of-self-in-Some c = gave _ _ _ _ _ _ _ _ _ c.in-Some.ensures.items c.remember.ensures.len c.remember.ensures.capacity c.self.invariant

pub returns-in-Some-clause-gives : goal.returns-in-Some-clause-gives
returns-in-Some-clause-gives c =
    let given = ap (λ (p : MemoryPeering). length p.given) c.self.view_is in
    let returned = ap (λ (p : MemoryPeering). length p.returned) c.self.view_is in
    gives_first c.args.self.now _ _ _ c.in-Some.conn
    (was_unused _ _ _ _ _ _ _ c.in-Some.ensures.items c.self.invariant)
    (c.remember.ensures.items ∙ ap (λ (p : MemoryPeering). p.given ++ c.in-Some.conn ∷ []) c.self.view_is)
    (ap (λ (p : MemoryPeering). p.returned) c.self.view_is)
    (ap (λ (p : MemoryPeering). p.faults) c.self.view_is)
    (omega (arith, given, length-map {A = Snapshot MemoryConn} {B = MemoryConn}, c.self.inside.given.ok.0, c.self.invariant.few))
    (omega (arith, given, returned, length-map {A = Snapshot MemoryConn} {B = MemoryConn}, c.self.inside.given.ok.0, c.self.inside.returned.ok.0, c.self.invariant.within))

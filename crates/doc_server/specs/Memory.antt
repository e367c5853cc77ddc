-- What the connections in memory and their giver are seen as.
use Rattle.std.specs.Prelude.{◌≡◌, ◌⊎◌, ◌<◌, ◌≤◌, ◌+◌, ◌-◌, ◌^◌, ℕ, List, [], ◌∷◌, ◌++◌, length, map, All, Contains, Some}
use Rattle.outer_ports.specs.Causes.{one_more}
use Rattle.doc_server.specs.declared.memory_conn.MemoryConn.{MemoryConn}
use Rattle.doc_server.specs.declared.peers.NextPeer.{NextPeer}
use Rattle.doc_server.specs.declared.peers.NextPeer.TheVariants.{Peer, Failed}
use Rattle.doc_server.specs.Writing.{Connection}
use Rattle.doc_server.specs.Peering.{Answered, Peering, is_faulty}

-- a connection in memory tells all
abbrev pub connection_of : MemoryConn → Connection
connection_of c = record {
  left = Some c.source.left;
  content = Some c.sink.content;
  read_faults = c.source.faults;
  write_faults = c.sink.faults;
}

-- nothing stands written, and there were no faults
pub record IsUnused (c : MemoryConn) : Type 0 where
  pub content : c.sink.content ≡ []
  pub read_faults : c.source.faults ≡ 0
  pub write_faults : c.sink.faults ≡ 0

-- the connections that wait, those that were given as they were then, and those that were handed back;
-- the numbers of the calls that fail, and how many calls were made and failed
pub record MemoryPeering : Type 0 where
  pub waiting : List MemoryConn
  pub given : List MemoryConn
  pub returned : List MemoryConn
  pub fail : List ℕ
  pub calls : ℕ
  pub faults : ℕ

abbrev pub held : MemoryConn → List ℕ
held c = c.source.left

abbrev pub answer_of : MemoryConn → Answered
answer_of c = record { content = c.sink.content; faulty = is_faulty (connection_of c) }

-- what they count and tell
abbrev pub peering_of : MemoryPeering → Peering
peering_of p = record {
  faults = p.faults;
  given = length p.given;
  returned = length p.returned;
  asked = Some (map held p.given);
  wrote = Some (map answer_of p.returned);
}

-- a call of `next` is counted; it fails exactly where its number is one of those, or none waits, and else
-- gives the first that waits
abbrev pub GivesInMemory : MemoryPeering → MemoryPeering → NextPeer MemoryConn → Type 0
GivesInMemory old new (Peer c) =
    (Contains old.fail old.calls → ⊥) × (old.waiting ≡ c ∷ new.waiting)
    × (new ≡ record old { waiting = new.waiting; given = old.given ++ c ∷ []; calls = one_more old.calls })
GivesInMemory old new Failed =
    (Contains old.fail old.calls ⊎ (old.waiting ≡ []))
    × (new ≡ record old { calls = one_more old.calls; faults = one_more old.faults })

-- those that wait are unused; so many were given and handed back, and there is room for those that wait
-- among them
pub record MayGive (waiting : List MemoryConn) (given given_room returned returned_room : ℕ) : Type 0 where
  pub unused : All IsUnused waiting
  pub few : given + length waiting < 2 ^ 64 - 1
  pub room : given + length waiting ≤ given_room
  pub back : given + length waiting ≤ returned_room
  pub within : returned ≤ given

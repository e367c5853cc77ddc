-- Connections at which nothing was read or written yet, one after another.
use Rattle.std.proofs.Common.{ℕ, zero, suc, ◌≡◌, ◌++◌, List, [], ◌∷◌, sym, subst, arith}
use Rattle.std.specs.List.{All}
use Rattle.std.proofs.lemmas.List.Elements.{All-append}
use Rattle.doc_server.specs.declared.memory_conn.MemoryConn.{MemoryConn}
use Rattle.doc_server.specs.Memory.{IsUnused}

one : (c : MemoryConn) → IsUnused c → All IsUnused (c ∷ [])
one c is zero d h = is
one c is (suc k) d h = absurd (omega arith)

-- no connection
pub unused_none : (cs : List MemoryConn) → cs ≡ [] → All IsUnused cs
unused_none cs e = subst (All IsUnused) (sym e) (λ k d h. absurd (omega arith))

-- one more
pub unused_push : (cs ds : List MemoryConn) (c : MemoryConn) → ds ≡ cs ++ c ∷ [] → All IsUnused cs → IsUnused c → All IsUnused ds
unused_push cs ds c e all is = subst (All IsUnused) (sym e) (All-append IsUnused cs (c ∷ []) all (one c is))

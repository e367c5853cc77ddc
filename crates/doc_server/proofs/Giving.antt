-- What the giver of connections in memory keeps.
use Rattle.std.proofs.Common.{◌≡◌, ℕ, ◌+◌, ◌-◌, ◌^◌, ◌<◌, ◌≤◌, List, [], ◌∷◌, ◌++◌, length, refl, ap, ◌∙◌, subst, arith, length-append, map, Some, All}
use Rattle.std.proofs.lemmas.List.Elements.{All-head, All-tail}
use Rattle.doc_server.specs.declared.memory_conn.MemoryConn.{MemoryConn}
use Rattle.std.proofs.lemmas.List.{map-append}
use Rattle.doc_server.specs.Peering.{Gives}
use Rattle.doc_server.specs.Memory.{IsUnused, MayGive, MemoryPeering, answer_of, connection_of, held, peering_of}

-- the first that waited was given
pub gave : (old new : List MemoryConn) (conn : MemoryConn) (given given' room room' returned back : ℕ) → old ≡ conn ∷ new → given' ≡ given + 1 → room ≤ room'
    → MayGive old given room returned back → MayGive new given' room' returned back
gave old new conn given given' room room' returned back e f more m =
    let size = ap length e in
    record {
      unused = All-tail IsUnused conn new (subst (All IsUnused) e m.unused);
      few = omega (arith, size, f, m.few);
      room = omega (arith, size, f, more, m.room);
      back = omega (arith, size, f, m.back);
      within = omega (arith, f, m.within);
    }

-- and was unused
pub was_unused : (old new : List MemoryConn) (conn : MemoryConn) (given room returned back : ℕ) → old ≡ conn ∷ new → MayGive old given room returned back → IsUnused conn
was_unused old new conn given room returned back e m = All-head IsUnused conn new (subst (All IsUnused) e m.unused)

-- what is told of it
pub gives_first : (old : MemoryPeering) (given returned : List MemoryConn) (faults : ℕ) (conn : MemoryConn) → IsUnused conn → given ≡ old.given ++ conn ∷ [] → returned ≡ old.returned → faults ≡ old.faults
    → length old.given + 1 < 2 ^ 64 → length old.returned ≤ length old.given
    → Gives (peering_of old) (connection_of conn) (record { faults = faults; given = length given; returned = length returned; asked = Some (map held given); wrote = Some (map answer_of returned) })
gives_first old given returned faults conn unused more same calm few within =
    let size : length given ≡ length old.given + 1 = ap length more ∙ length-append old.given (conn ∷ []) in
    let back : length returned ≡ length old.returned = ap length same in
    record {
      content = ap Some unused.content;
      read_faults = unused.read_faults;
      write_faults = unused.write_faults;
      given = omega (arith, size, few);
      returned = back;
      out = omega (arith, size, back, within);
      asked = (held conn, refl, ap Some (ap (map held) more ∙ map-append held old.given (conn ∷ [])));
      wrote = ap Some (ap (map answer_of) same);
      later = omega (arith, calm);
    }

-- The open connections of a wire in memory, as connections of a wire.
use Rattle.std.proofs.Common.{ℕ, ◌≡◌, ◌+◌, ◌^◌, ◌<◌, ◌≤◌, List, [], ◌∷◌, ◌++◌, Option, Some, None, IsSome, true, false, refl, sym, ◌∙◌, ap, subst, arith, take}
use Rattle.std.specs.Prelude.{option_map, Contains, IfSome}
use Rattle.std.proofs.Math.Seq.{take-add}
use Rattle.std.proofs.lemmas.List.{take-append-drop}
use Rattle.outer_ports.specs.declared.host.Host.{Host}
use Rattle.outer_ports.specs.declared.open_conns.OpenConn.{OpenConn}
use Rattle.outer_ports.specs.declared.wire_counts.WireCounts.{WireCounts}
use Rattle.outer_ports.specs.Causes.{Rose, RoseOnce, one_more}
use Rattle.outer_ports.specs.Wire.{Conn, ChangesOnly, Begins, IsTold, response_of, response_to, one_more_first}
use Rattle.outer_ports.specs.MemoryWire.{open_in, since_of, BecomesAt, WaitsSince, conn_of, conns_of, is_sure, left_of}

-- ---- from a connection to the open one

map_some : {A B : Type 0} (f : A → B) (r : Option A) (b : B) → option_map f r ≡ Some b → (a : A) × (r ≡ Some a) × (b ≡ f a)
map_some f None b e = absurd (cc (e))
map_some f (Some a) b e = (a, refl, cc (e))

pub open_of : (hosts : List Host) (os : List OpenConn) (n : ℕ) (c : Conn) → conns_of hosts os n ≡ Some c → (o : OpenConn) × (open_in os n ≡ Some o) × (c ≡ conn_of hosts o)
open_of hosts os n c e = map_some (conn_of hosts) (open_in os n) c e

map_is_some : {A B : Type 0} (f : A → B) (r : Option A) → IsSome (option_map f r) → (a : A) × (r ≡ Some a)
map_is_some f None s = absurd (cc (s))
map_is_some f (Some a) s = (a, refl)

pub some_open : (hosts : List Host) (os : List OpenConn) (n : ℕ) → IsSome (conns_of hosts os n) → (o : OpenConn) × (open_in os n ≡ Some o)
some_open hosts os n s = map_is_some (conn_of hosts) (open_in os n) s

-- ---- and back

pub conn_becomes : (hosts : List Host) (os ps : List OpenConn) (n : ℕ) (o : OpenConn) → BecomesAt os n o ps → conns_of hosts ps n ≡ Some (conn_of hosts o)
conn_becomes hosts os ps n o b = ap (option_map (conn_of hosts)) b.at

pub conns_stay : (hosts : List Host) (os ps : List OpenConn) (n : ℕ) (o : OpenConn) → BecomesAt os n o ps → ChangesOnly n (conns_of hosts os) (conns_of hosts ps)
conns_stay hosts os ps n o b = λ k ne. ap (option_map (conn_of hosts)) (b.others k ne)

told_at : (hosts : List Host) (r : Option OpenConn) → IfSome (option_map (conn_of hosts) r) (λ c. Begins c.received (response_to hosts c))
told_at hosts None = tt
told_at hosts (Some o) = (left_of hosts o, sym (take-append-drop o.taken (response_of hosts o.host o.port o.sent)))

-- what was received is the beginning of the response
pub told : (hosts : List Host) (os : List OpenConn) (n : ℕ) → IsTold (Some hosts) (conns_of hosts os n)
told hosts os n = told_at hosts (open_in os n)

-- a named connection is ready
pub named : (hosts : List Host) (os ps : List OpenConn) (n since : ℕ) (o : OpenConn) → open_in os n ≡ Some o → BecomesAt os n (record o { since = since; ready = true }) ps
    → ((c : Conn) × (conns_of hosts os n ≡ Some c) × (conns_of hosts ps n ≡ Some (record c { ready = true }))) × ChangesOnly n (conns_of hosts os) (conns_of hosts ps)
named hosts os ps n since o e b = ((conn_of hosts o, ap (option_map (conn_of hosts)) e, conn_becomes hosts os ps n _ b), conns_stay hosts os ps n _ b)

-- so many more bytes of the response are received
pub took_more : (hosts : List Host) (os ps : List OpenConn) (n k : ℕ) (o : OpenConn) (buf : List ℕ) (c : Conn)
    → open_in os n ≡ Some o → take k buf ≡ take k (left_of hosts o) → BecomesAt os n (record o { taken = o.taken + k }) ps → conns_of hosts os n ≡ Some c
    → conns_of hosts ps n ≡ Some (record c { received = c.received ++ take k buf })
took_more hosts os ps n k o buf c e f b g =
    let same : conn_of hosts o ≡ c = cc (ap (option_map (conn_of hosts)) e, g) in
    conn_becomes hosts os ps n (record o { taken = o.taken + k }) b
    ∙ ap (λ (bs : List ℕ). Some (record (conn_of hosts o) { received = bs })) (take-add o.taken k (response_of hosts o.host o.port o.sent) ∙ ap (λ (bs : List ℕ). (conn_of hosts o).received ++ bs) (sym f))
    ∙ ap (λ (d : Conn). Some (record d { received = d.received ++ take k buf })) same

-- what changes but waits since the same call as before
pub since_stays : (os ps : List OpenConn) (n : ℕ) (o p : OpenConn) → open_in os n ≡ Some o → BecomesAt os n p ps → p.since ≡ o.since → WaitsSince os n (since_of os n) ps
since_stays os ps n o p e b s = record {
  at = ap (option_map (λ (x : OpenConn). x.since)) b.at ∙ ap Some s ∙ sym (ap (option_map (λ (x : OpenConn). x.since)) e);
  others = b.others;
}

-- ---- counts

pub rose_one : (n : ℕ) → Rose n (one_more n)
rose_one n = omega arith

pub grows_one : (n : ℕ) → n < 2 ^ 64 → n ≤ one_more n
grows_one n h = omega arith

-- a failed send or receive
pub counts_failed : (hosts : List Host) (os : List OpenConn) (n : ℕ) (old new : WireCounts)
    → ((o : OpenConn) → open_in os n ≡ Some o → new ≡ record old { faults = one_more old.faults; breaks = one_more_first o.broken old.breaks })
    → (c : Conn) → conns_of hosts os n ≡ Some c
    → Rose old.faults new.faults × (new ≡ record old { faults = new.faults; breaks = one_more_first c.broken old.breaks })
counts_failed hosts os n old new h c e =
    let is = open_of hosts os n c e in
    let o : OpenConn = is.0 in
    subst (λ (d : Conn). Rose old.faults new.faults × (new ≡ record old { faults = new.faults; breaks = one_more_first d.broken old.breaks })) (sym is.2) (
    subst (λ (w : WireCounts). Rose old.faults w.faults × (w ≡ record old { faults = w.faults; breaks = one_more_first o.broken old.breaks })) (sym (h o is.1)) (rose_one old.faults, refl)
    )

-- it counts one fault
pub faults_one : (hosts : List Host) (os : List OpenConn) (n : ℕ) (old new : WireCounts)
    → ((o : OpenConn) → open_in os n ≡ Some o → new ≡ record old { faults = one_more old.faults; breaks = one_more_first o.broken old.breaks })
    → IsSome (conns_of hosts os n) → RoseOnce old.faults new.faults
faults_one hosts os n old new h s =
    let is = some_open hosts os n s in
    ap (λ (w : WireCounts). w.faults) (h is.0 is.1)

-- an answered end, before which the faults may have risen
pub counts_ended : (hosts : List Host) (os : List OpenConn) (n faults : ℕ) (old new : WireCounts)
    → old.faults ≤ faults
    → ((o : OpenConn) → open_in os n ≡ Some o → new ≡ record old { faults = faults; ends = one_more_first o.ended old.ends })
    → (c : Conn) → conns_of hosts os n ≡ Some c
    → (old.faults ≤ new.faults) × (new ≡ record old { faults = new.faults; ends = one_more_first c.ended old.ends })
counts_ended hosts os n faults old new l h c e =
    let is = open_of hosts os n c e in
    let o : OpenConn = is.0 in
    subst (λ (d : Conn). (old.faults ≤ new.faults) × (new ≡ record old { faults = new.faults; ends = one_more_first d.ended old.ends })) (sym is.2) (
    subst (λ (w : WireCounts). (old.faults ≤ w.faults) × (w ≡ record old { faults = w.faults; ends = one_more_first o.ended old.ends })) (sym (h o is.1)) (l, refl)
    )

-- ---- sure

pub not_sure : (fail cut quiet : List ℕ) (n : ℕ) → Contains cut n → is_sure fail cut quiet ≡ false
not_sure [] [] quiet n i = absurd (let l = i.1 in omega arith)
not_sure [] (x ∷ xs) quiet n i = refl
not_sure (y ∷ ys) cut quiet n i = refl

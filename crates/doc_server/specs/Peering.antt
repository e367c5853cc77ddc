-- What a giver of connections counts and tells, and what its calls do.
use Rattle.std.specs.Prelude.{◌≡◌, ◌≤◌, ◌+◌, ◌-◌, ◌^◌, ℕ, min, List, [], ◌∷◌, ◌++◌, Bool, ◌||◌, nat_lt, Some, None, IfSome}
use Rattle.std.specs.declared.option.Option.{Option}
use Rattle.std.specs.Option.{option_map}
use Rattle.outer_ports.specs.Causes.{Rose, one_more}
use Rattle.doc_server.specs.declared.peers.NextPeer.{NextPeer}
use Rattle.doc_server.specs.declared.peers.NextPeer.TheVariants.{Peer, Failed}
use Rattle.doc_server.specs.Writing.{Connection}

-- a connection that was handed back: what stood written in it, and whether it had faults
pub record Answered : Type 0 where
  pub content : List ℕ
  pub faulty : Bool

-- how often giving failed, how many connections were given and handed back, and, where they are told,
-- what each given one held to be read and what each handed back was answered
pub record Peering : Type 0 where
  pub faults : ℕ
  pub given : ℕ
  pub returned : ℕ
  pub asked : Option (List (List ℕ))
  pub wrote : Option (List Answered)

-- whether the connection had faults of either kind
abbrev pub is_faulty : Connection → Bool
is_faulty c = nat_lt 0 c.read_faults || nat_lt 0 c.write_faults

-- how a connection was answered, where it tells
abbrev pub answered : Connection → Option Answered
answered c = option_map (λ content. record { content = content; faulty = is_faulty c }) c.content

-- a told list gets one member more, which is told then
abbrev pub Tells : {A : Type 0} → Option (List A) → Option A → Option (List A) → Type 0
Tells None member new = new ≡ None
Tells {A} (Some xs) member new = (x : A) × (member ≡ Some x) × (new ≡ Some (xs ++ x ∷ []))

-- a told list gets this member, where it is told
abbrev pub Adds : {A : Type 0} → Option (List A) → Option A → Option (List A) → Type 0
Adds None member new = new ≡ None
Adds (Some xs) None new = Unit {0}
Adds (Some xs) (Some x) new = new ≡ Some (xs ++ x ∷ [])

-- nothing stands written, which is told where answers are
abbrev pub StartsEmpty : Option (List Answered) → Option (List ℕ) → Type 0
StartsEmpty None content = IfSome content (λ xs. xs ≡ [])
StartsEmpty (Some answers) content = content ≡ Some []

-- a connection is given, in which nothing stands written and that has no faults. It may be handed back
pub record Gives (old : Peering) (c : Connection) (new : Peering) : Type 0 where
  pub content : StartsEmpty old.wrote c.content
  pub read_faults : c.read_faults ≡ 0
  pub write_faults : c.write_faults ≡ 0
  pub given : new.given ≡ one_more old.given
  pub returned : new.returned ≡ old.returned
  pub out : one_more new.returned ≤ new.given
  pub asked : Tells old.asked c.left new.asked
  pub wrote : new.wrote ≡ old.wrote
  pub later : old.faults ≤ new.faults

-- no connection is given, and that is a fault
pub record Fails (old new : Peering) : Type 0 where
  pub given : new.given ≡ old.given
  pub returned : new.returned ≡ old.returned
  pub asked : new.asked ≡ old.asked
  pub wrote : new.wrote ≡ old.wrote
  pub later : old.faults ≤ new.faults
  pub rose : Rose old.faults new.faults

abbrev pub GivesNext : {C : Type 0} → (C → Connection) → Peering → NextPeer C → Peering → Type 0
GivesNext seen old (Peer c) new = Gives old (seen c) new
GivesNext seen old Failed new = Fails old new

-- a connection is handed back
pub record TakesBack (old : Peering) (c : Connection) (new : Peering) : Type 0 where
  pub given : new.given ≡ old.given
  pub returned : new.returned ≡ one_more old.returned
  pub asked : new.asked ≡ old.asked
  pub wrote : Adds old.wrote (answered c) new.wrote
  pub later : old.faults ≤ new.faults

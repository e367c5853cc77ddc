-- A connection that is open stays so over a send or a receive. For callers that are generic over wires.
use Rattle.std.proofs.Common.{ℕ, ◌≡◌, List, Option, Some, None, IsSome, refl, sym, subst}
use Rattle.outer_ports.specs.declared.wire.Sent.{Sent}
use Rattle.outer_ports.specs.declared.wire.Sent.TheVariants as S
use Rattle.outer_ports.specs.declared.wire.Received.{Received}
use Rattle.outer_ports.specs.declared.wire.Received.TheVariants as R
use Rattle.outer_ports.specs.Wire.{Conn, Sends, Receives}

is_some : (r : Option Conn) (c : Conn) → r ≡ Some c → IsSome r
is_some r c e = subst (λ (s : Option Conn). IsSome s) (sym e) refl

sends_some : (c : Conn) (piece : List ℕ) (answer : Sent) (new : Option Conn) → Sends c piece answer new → IsSome new
sends_some c piece (S.Took n) new s = is_some new _ s.2
sends_some c piece S.Again new s = is_some new _ s
sends_some c piece S.Failed new s = is_some new _ s
sends_some c piece S.Memory new s = is_some new _ s

receives_some : (c : Conn) (buf : List ℕ) (answer : Received) (new : Option Conn) → Receives c buf answer new → IsSome new
receives_some c buf (R.Took n) new s = is_some new _ s.2
receives_some c buf R.End new s = is_some new _ s
receives_some c buf R.Again new s = is_some new _ s
receives_some c buf R.Failed new s = is_some new _ s

pub sent_open : (old : Option Conn) (piece : List ℕ) (answer : Sent) (new : Option Conn) → IsSome old → ((c : Conn) → old ≡ Some c → Sends c piece answer new) → IsSome new
sent_open None piece answer new i s = absurd (cc (i))
sent_open (Some c) piece answer new i s = sends_some c piece answer new (s c refl)

pub received_open : (old : Option Conn) (buf : List ℕ) (answer : Received) (new : Option Conn) → IsSome old → ((c : Conn) → old ≡ Some c → Receives c buf answer new) → IsSome new
received_open None buf answer new i s = absurd (cc (i))
received_open (Some c) buf answer new i s = receives_some c buf answer new (s c refl)

-- What stands written in a connection once it was served, and what its faults say.
use Rattle.std.specs.Prelude.{◌≡◌, ◌⊎◌, ◌≤◌, ℕ, List, [], ◌++◌, length, take, Some}
use Rattle.std.specs.declared.option.Option.{Option}
use Rattle.std.specs.Io.KnownBytes.{prepend_known, append_known, IsAtEnd}
use Rattle.outer_ports.specs.Causes.{RoseOnce}
use Rattle.outer_ports.specs.Wire.{Begins}
use Rattle.site_core.specs.Serving.{IsServed}
use Rattle.site_core.specs.Text.{Entry}
use Rattle.doc_server.specs.declared.head_end.Place.TheVariants.{Blank, Ended}
use Rattle.doc_server.specs.declared.serving.Served.{Served}
use Rattle.doc_server.specs.declared.serving.Served.TheVariants.{Done, ReadFault, WriteFault, Memory}
use Rattle.doc_server.specs.HeadEnd.{place_after}

-- the most bytes of a connection that are taken for its request
abbrev pub request_limit : ℕ
request_limit = 65536

-- enough of a request was read: its head, all that there was, or as much as may be taken
abbrev pub IsEnough : List ℕ → Option (List ℕ) → Type 0
IsEnough bytes left = (place_after Blank bytes ≡ Ended) ⊎ (IsAtEnd left ⊎ (length bytes ≡ request_limit))

-- nothing, or the beginning of the response of a site to a request
abbrev pub BeginsResponse : List Entry → List ℕ → List ℕ → Type 0
BeginsResponse site request part = (part ≡ []) ⊎ ((response : List ℕ) × IsServed site request response × Begins part response)

-- a text was written whole, or a beginning of it
abbrev pub WritesText : List ℕ → Option (List ℕ) → Option (List ℕ) → Served → Type 0
WritesText text old new Done = new ≡ append_known old text
WritesText text old new ReadFault = ⊥
WritesText text old new WriteFault = (part : List ℕ) × Begins part text × (new ≡ append_known old part)
WritesText text old new Memory = (part : List ℕ) × Begins part text × (new ≡ append_known old part)

-- what is added to what stands written: the response to the request, nothing where reading failed, and
-- else a beginning of the response
abbrev pub Writes : List Entry → List ℕ → Option (List ℕ) → Option (List ℕ) → Served → Type 0
Writes site request old new Done = (response : List ℕ) × IsServed site request response × (new ≡ append_known old response)
Writes site request old new ReadFault = new ≡ old
Writes site request old new WriteFault = (part : List ℕ) × BeginsResponse site request part × (new ≡ append_known old part)
Writes site request old new Memory = (part : List ℕ) × BeginsResponse site request part × (new ≡ append_known old part)

-- a fault of writing is counted once, and only where it is answered
abbrev pub CountsWritten : ℕ → ℕ → Served → Type 0
CountsWritten writes writes' Done = writes' ≡ writes
CountsWritten writes writes' ReadFault = ⊥
CountsWritten writes writes' WriteFault = RoseOnce writes writes'
CountsWritten writes writes' Memory = writes' ≡ writes

-- a fault is counted once, and only where it is answered
abbrev pub CountsServed : ℕ → ℕ → ℕ → ℕ → Served → Type 0
CountsServed reads reads' writes writes' Done = (reads' ≡ reads) × (writes' ≡ writes)
CountsServed reads reads' writes writes' ReadFault = RoseOnce reads reads' × (writes' ≡ writes)
CountsServed reads reads' writes writes' WriteFault = (reads' ≡ reads) × RoseOnce writes writes'
CountsServed reads reads' writes writes' Memory = (reads' ≡ reads) × (writes' ≡ writes)

-- a connection: what it holds to be read and what stands written in it, where they are told, and its faults
pub record Connection : Type 0 where
  pub left : Option (List ℕ)
  pub content : Option (List ℕ)
  pub read_faults : ℕ
  pub write_faults : ℕ

-- a connection was served by a site: where it tells what it held, the request is what stood in front
pub record IsServedBy (site : List Entry) (old new : Connection) (served : Served) : Type 0 where
  pub written : (held : List ℕ) → old.left ≡ Some held → Writes site (take request_limit held) old.content new.content served
  pub unwritten : served ≡ ReadFault → new.content ≡ old.content
  pub counts : CountsServed old.read_faults new.read_faults old.write_faults new.write_faults served

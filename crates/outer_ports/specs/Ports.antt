-- What one call of a source or a sink does. Bytes are told, as Some, or not, as None.
use Rattle.std.specs.Prelude.{◌≡◌, ℕ, ◌<◌, ◌≤◌, List, length, take}
use Rattle.std.specs.declared.option.Option.{Option}
use Rattle.std.specs.Io.KnownBytes.{prepend_known, append_known, IsAtEnd, Appends, Consumes, Keeps}
use Rattle.outer_ports.specs.Causes.{Rose, RoseOnce}
use Rattle.outer_ports.specs.declared.source.Read.{Read}
use Rattle.outer_ports.specs.declared.source.Read.TheVariants.{Took, End, Failed}
use Rattle.outer_ports.specs.declared.sink.Wrote.{Wrote}
use Rattle.outer_ports.specs.declared.sink.Wrote.TheVariants as W

-- Took(n) gave the first n bytes of what was left, and End comes only where nothing is left
abbrev pub Reads : Option (List ℕ) → Option (List ℕ) → List ℕ → Read → Type 0
Reads old new buf (Took n) = (0 < n) × (n ≤ length buf) × (old ≡ prepend_known (take n buf) new)
Reads old new buf End = IsAtEnd old × (new ≡ old)
Reads old new buf Failed = new ≡ old

-- the count of End answers rises at an End, and nowhere else
abbrev pub CountsEnds : ℕ → ℕ → Read → Type 0
CountsEnds old new (Took n) = new ≡ old
CountsEnds old new End = Rose old new
CountsEnds old new Failed = new ≡ old

-- a read that fails counts one fault, and no other counts any
abbrev pub ReadFaults : ℕ → ℕ → Read → Type 0
ReadFaults old new (Took n) = new ≡ old
ReadFaults old new End = new ≡ old
ReadFaults old new Failed = RoseOnce old new

-- a write that fails counts one fault, and no other counts any
abbrev pub WriteFaults : ℕ → ℕ → Wrote → Type 0
WriteFaults old new (W.Took n) = new ≡ old
WriteFaults old new W.Failed = RoseOnce old new
WriteFaults old new W.Memory = new ≡ old

-- Took(n) appended the first n bytes of the piece, any other answer appended nothing
abbrev pub Writes : Option (List ℕ) → Option (List ℕ) → List ℕ → Wrote → Type 0
Writes old new piece (W.Took n) = (0 < n) × (n ≤ length piece) × (new ≡ append_known old (take n piece))
Writes old new piece W.Failed = new ≡ old
Writes old new piece W.Memory = new ≡ old

-- a read that gives bytes gives so many
abbrev pub TakesUpTo : ℕ → Read → Type 0
TakesUpTo most (Took n) = n ≡ most
TakesUpTo most End = Unit {0}
TakesUpTo most Failed = Unit {0}

-- a write that takes bytes takes so many
abbrev pub GivesUpTo : ℕ → Wrote → Type 0
GivesUpTo most (W.Took n) = n ≡ most
GivesUpTo most W.Failed = Unit {0}
GivesUpTo most W.Memory = Unit {0}

-- what an answer says of the bytes that a reader of std has left
abbrev pub ReadsThrough : Option (List ℕ) → Option (List ℕ) → List ℕ → Read → Type 0
ReadsThrough old new buf (Took n) = Consumes old new (take n buf)
ReadsThrough old new buf End = IsAtEnd new × Keeps old new
ReadsThrough old new buf Failed = Keeps old new

-- known bytes grow by the beginning of a piece
abbrev pub AppendsPrefix : Option (List ℕ) → Option (List ℕ) → List ℕ → Type 0
AppendsPrefix old new piece = (n : ℕ) × (n ≤ length piece) × Appends old new (take n piece)

-- what an answer says of the bytes that a writer of std holds: a failed flush may follow a write
abbrev pub WritesThrough : Option (List ℕ) → Option (List ℕ) → List ℕ → Wrote → Type 0
WritesThrough old new piece (W.Took n) = Appends old new (take n piece)
WritesThrough old new piece W.Failed = AppendsPrefix old new piece
WritesThrough old new piece W.Memory = Keeps old new

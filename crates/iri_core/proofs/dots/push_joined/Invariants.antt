use Rattle.std.proofs.Common.{◌≡◌, ◌++◌, take}
use Rattle.std.specs.String.{string_bytes}
use Rattle.std.specs.List.{join_with_byte}
use Rattle.iri_core.specs.Reference.{slash}
use Rattle.iri_core.specs.Kept.{texts}
use Rattle.iri_core.proofs.dots.push_joined.Given as goal

abbrev pub invariant-loop-i : goal.invariant-loop-i
invariant-loop-i l = string_bytes l.out ≡ string_bytes l.initial.out ++ join_with_byte slash (texts (take l.i l.segments))

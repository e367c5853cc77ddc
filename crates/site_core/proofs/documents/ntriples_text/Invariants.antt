use Rattle.std.proofs.Common.{◌≡◌, take}
use Rattle.std.specs.List.{flat_map}
use Rattle.site_core.specs.Generated.{next_triple}
use Rattle.site_core.proofs.documents.ntriples_text.Given as goal

abbrev pub invariant-loop-j : goal.invariant-loop-j
invariant-loop-j l = l.text ≡ flat_map (next_triple l.i) (take l.j-index l.numbers)

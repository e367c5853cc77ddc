use Rattle.std.proofs.Common.{◌≡◌, ◌++◌, take}
use Rattle.std.specs.List.{flat_map}
use Rattle.site_core.specs.Generated.{next_line, prefix_line}
use Rattle.site_core.proofs.documents.turtle_text.Given as goal

abbrev pub invariant-loop-j : goal.invariant-loop-j
invariant-loop-j l = l.text ≡ prefix_line ++ flat_map next_line (take l.j-index l.numbers)

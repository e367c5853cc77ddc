use Rattle.std.proofs.Common.{◌≡◌, ◌∷◌}
use Rattle.site_core.specs.Generated.{documents, vocabulary}
use Rattle.site_core.proofs.generated.numbered_entries.Given as goal

abbrev pub invariant-loop-i : goal.invariant-loop-i
invariant-loop-i l = l.entries.items ≡ vocabulary ∷ documents l.n l.step l.i

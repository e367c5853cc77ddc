use Rattle.std.proofs.Common.{◌≡◌, take, map, []}
use Rattle.std.specs.Prelude.{slice_get, unwrap_or}
use Rattle.traverse_core.proofs.opening.names_at.Given as goal

abbrev pub invariant-loop-number : goal.invariant-loop-number
invariant-loop-number l = l.selected.items ≡ map (λ number. unwrap_or (slice_get l.names number) []) (take l.number-index l.select)

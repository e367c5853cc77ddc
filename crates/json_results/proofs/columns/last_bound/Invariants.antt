use Rattle.std.proofs.Common.{◌≡◌, drop, None}
use Rattle.std.specs.Option.{option_copied}
use Rattle.json_results.specs.Columns.{last_bound}
use Rattle.json_results.proofs.columns.last_bound.Given as goal

abbrev pub invariant-loop-i : goal.invariant-loop-i
invariant-loop-i l = last_bound (option_copied l.found) (drop l.i l.places) l.cells ≡ last_bound None l.places l.cells

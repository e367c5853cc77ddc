use Rattle.std.proofs.Common.{◌≡◌, drop}
use Rattle.json_results.specs.Columns.{with_names, columns_of}
use Rattle.json_results.proofs.columns.Columns.new.Given as goal

abbrev pub invariant-loop-i : goal.invariant-loop-i
invariant-loop-i l = with_names (drop l.i l.names) l.i l.columns.items ≡ columns_of l.names

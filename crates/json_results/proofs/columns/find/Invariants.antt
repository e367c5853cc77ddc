use Rattle.json_results.proofs.InOrder.{After}
use Rattle.json_results.proofs.columns.find.Given as goal

abbrev pub invariant-loop-i : goal.invariant-loop-i
invariant-loop-i l = After l.name l.columns l.i

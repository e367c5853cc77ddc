use Rattle.rows_core.proofs.Joining.{merges}
use Rattle.rows_core.proofs.merging.merge.Goals as goal

pub returns-clause-meaning : goal.returns-clause-meaning
returns-clause-meaning c = merges _ _ _ c.requires c.in_ok-row.ensures

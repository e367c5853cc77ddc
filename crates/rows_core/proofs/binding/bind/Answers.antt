use Rattle.rows_core.proofs.Bindable.{binding}
use Rattle.rows_core.proofs.binding.bind.Goals as goal

pub returns-clause-meaning : goal.returns-clause-meaning
returns-clause-meaning c = binding _ _ _ _ c.in_ok-extended.ensures

use Rattle.symmetric_join.proofs.Feeding.{all_given, gained}
use Rattle.symmetric_join.proofs.laws.feeds_add_up.Goals as goal

pub returns-clause-all : goal.returns-clause-all
returns-clause-all c = all_given

pub returns-clause-gain : goal.returns-clause-gain
returns-clause-gain c = gained

use Rattle.algebra_core.proofs.Instances.{are_instances, instances_apart}
use Rattle.algebra_core.proofs.laws.pattern_rows_are_instances.Goals as goal

pub returns-clause-exact : goal.returns-clause-exact
returns-clause-exact c = are_instances

pub returns-clause-once : goal.returns-clause-once
returns-clause-once c = instances_apart

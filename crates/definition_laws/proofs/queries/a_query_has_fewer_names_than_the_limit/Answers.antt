use Rattle.definition_laws.proofs.FewNames.{few_names}
use Rattle.definition_laws.proofs.queries.a_query_has_fewer_names_than_the_limit.Goals as goal

pub returns : goal.returns
returns c = few_names

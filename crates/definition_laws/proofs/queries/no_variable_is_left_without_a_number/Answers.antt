use Rattle.definition_laws.proofs.FewNumbers.{few_numbers}
use Rattle.definition_laws.proofs.queries.no_variable_is_left_without_a_number.Goals as goal

pub returns : goal.returns
returns c = few_numbers

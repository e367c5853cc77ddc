use Rattle.definition_laws.proofs.SelectedNames.{selected_have_names}
use Rattle.definition_laws.proofs.queries.each_selected_variable_has_its_name.Goals as goal

pub returns : goal.returns
returns c = selected_have_names

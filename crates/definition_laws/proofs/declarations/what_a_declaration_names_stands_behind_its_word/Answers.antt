use Rattle.definition_laws.proofs.Declared.{declarations_fit}
use Rattle.definition_laws.proofs.declarations.what_a_declaration_names_stands_behind_its_word.Goals as goal

pub returns : goal.returns
returns c = declarations_fit

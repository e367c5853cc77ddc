use Rattle.definition_laws.proofs.Named.{directives_fit}
use Rattle.definition_laws.proofs.directives.what_a_directive_names_stands_behind_its_word.Goals as goal

pub returns : goal.returns
returns c = directives_fit

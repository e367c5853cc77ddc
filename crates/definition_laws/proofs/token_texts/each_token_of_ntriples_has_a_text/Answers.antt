use Rattle.definition_laws.proofs.TurtleTexts.{ntriples_texts}
use Rattle.definition_laws.proofs.token_texts.each_token_of_ntriples_has_a_text.Goals as goal

pub returns : goal.returns
returns c = ntriples_texts

use Rattle.definition_laws.proofs.TurtleTexts.{turtle_texts}
use Rattle.definition_laws.proofs.token_texts.each_token_of_turtle_has_a_text.Goals as goal

pub returns : goal.returns
returns c = turtle_texts

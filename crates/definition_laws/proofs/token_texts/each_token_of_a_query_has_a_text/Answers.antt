use Rattle.definition_laws.proofs.QueryTexts.{query_texts}
use Rattle.definition_laws.proofs.token_texts.each_token_of_a_query_has_a_text.Goals as goal

pub returns : goal.returns
returns c = query_texts

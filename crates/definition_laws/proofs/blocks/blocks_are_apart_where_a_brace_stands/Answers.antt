use Rattle.definition_laws.proofs.Apart.{blocks_fit}
use Rattle.definition_laws.proofs.blocks.blocks_are_apart_where_a_brace_stands.Goals as goal

pub returns : goal.returns
returns c = blocks_fit

use Rattle.turtle_lexer.specs.declared.dialect.Dialect.TheVariants as dialects
use Rattle.turtle_lexer.proofs.Languages.{a_token_list, one_token_list}
use Rattle.turtle_lexer.proofs.laws.one_ntriples_token_list.Goals as goal

pub returns-clause-present : goal.returns-clause-present
returns-clause-present c = a_token_list dialects.NTriples

pub returns-clause-only : goal.returns-clause-only
returns-clause-only c = one_token_list dialects.NTriples

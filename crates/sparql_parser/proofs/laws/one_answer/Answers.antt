use Rattle.sparql_parser.proofs.Unique.{an_answer, only_answer}
use Rattle.sparql_parser.proofs.laws.one_answer.Goals as goal

pub returns-clause-present : goal.returns-clause-present
returns-clause-present c = an_answer

pub returns-clause-only : goal.returns-clause-only
returns-clause-only c = only_answer

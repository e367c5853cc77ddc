use Rattle.turtle_reader.proofs.Answering.{present, only}
use Rattle.turtle_reader.proofs.laws.one_answer.Goals as goal

pub returns-clause-present : goal.returns-clause-present
returns-clause-present c = present

pub returns-clause-only : goal.returns-clause-only
returns-clause-only c = only

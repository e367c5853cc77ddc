use Rattle.ntriples_reader.proofs.Readings.{reading_is, one_reading}
use Rattle.ntriples_reader.proofs.laws.one_reading.Goals as goal

pub returns-clause-present : goal.returns-clause-present
returns-clause-present c = reading_is

pub returns-clause-only : goal.returns-clause-only
returns-clause-only c = one_reading

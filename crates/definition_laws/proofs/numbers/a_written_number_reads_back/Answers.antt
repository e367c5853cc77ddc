use Rattle.definition_laws.proofs.ReadBack.{integer_reads_back, decimal_reads_back}
use Rattle.definition_laws.proofs.numbers.a_written_number_reads_back.Goals as goal

pub returns-clause-integer : goal.returns-clause-integer
returns-clause-integer c = integer_reads_back

pub returns-clause-decimal : goal.returns-clause-decimal
returns-clause-decimal c = decimal_reads_back

use Rattle.std.proofs.Common.{[], arith}
use Rattle.http_message.proofs.Spelled.{spelled_reads}
use Rattle.http_message.proofs.laws.spelled_chunks_are_read_as_their_data.Goals as goal

pub returns : goal.returns
returns c = λ chunks last more limit each is room. spelled_reads chunks last [] more limit each is (omega (arith, room))

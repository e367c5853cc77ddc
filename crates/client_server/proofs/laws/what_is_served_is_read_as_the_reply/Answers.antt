use Rattle.client_server.proofs.Agreed.{agree}
use Rattle.client_server.proofs.laws.what_is_served_is_read_as_the_reply.Goals as goal

pub returns : goal.returns
returns c = agree c.a_printed_head_is_read_as_it_says.ensures

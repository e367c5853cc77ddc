use Rattle.doc_server.proofs.Held.{front_of}
use Rattle.doc_server.proofs.serving.write_response.Goals as goal

pub returns-in-Err-Failed-clause-written : goal.returns-in-Err-Failed-clause-written
returns-in-Err-Failed-clause-written g c = front_of _ _ _ c.in-Err-Failed.ensures.prefix

pub returns-in-Err-Memory-clause-written : goal.returns-in-Err-Memory-clause-written
returns-in-Err-Memory-clause-written g c = front_of _ _ _ c.in-Err-Memory.ensures.prefix

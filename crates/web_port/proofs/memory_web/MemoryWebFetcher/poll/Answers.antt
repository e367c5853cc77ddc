use Rattle.web_port.proofs.MemoryWebLemmas.{ok_polls, err_waits, same_fetch}
use Rattle.web_port.proofs.memory_web.MemoryWebFetcher.poll.Goals as goal

pub returns-clause-same : goal.returns-clause-same
returns-clause-same c = same_fetch c.take_turn.result _ _ c.take_turn.ensures.state c.take_turn.ensures.unchanged

pub returns-clause-ok : goal.returns-clause-ok
returns-clause-ok c = ok_polls c.take_turn.result _ _ c.take_turn.ensures.kept c.take_turn.ensures.polled c.take_turn.ensures.state

pub returns-clause-err : goal.returns-clause-err
returns-clause-err c = err_waits c.take_turn.result _ _ c.take_turn.ensures.unchanged

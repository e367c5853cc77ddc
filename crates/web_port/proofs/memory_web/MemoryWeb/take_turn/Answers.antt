use Rattle.web_port.proofs.MemoryWebLemmas.{kept_turn}
use Rattle.web_port.proofs.memory_web.MemoryWeb.take_turn.Goals as goal

pub invariant_of-self-2 : goal.invariant_of-self-2
invariant_of-self-2 c =
    let w = c.self.inside in
    let i = c.self.invariant in (
      i.0,
      i.1,
      rw c.as_slice-3.ensures.value at c.place_behind-self-inside.ensures.within,
      rw (c.in_ok-polled.ensures.state) (kept_turn w.web w.tries _ w.flying w.flying.flights c.turn_at-turn.result i.3),
    )

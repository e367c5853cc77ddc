use Rattle.std.proofs.Common.{rules}
use Rattle.outer_ports.proofs.OpenConnsLemmas.{some_at, waits_longest}
use Rattle.outer_ports.proofs.open_conns.longest_waiting.Goals as goal

pub returns-clause-there : goal.returns-clause-there
returns-clause-there c = some_at c.args.conns.now c.loop-at.first _ c.loop-at.invariant.within

pub returns-clause-longest : goal.returns-clause-longest
returns-clause-longest c = waits_longest c.requires.rise.0 c.args.conns.now c.loop-at.first _ c.requires.rise.1 c.loop-at.invariant.within (λ k d l. c.loop-at.invariant.longest k d (search rules))

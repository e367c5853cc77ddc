use Rattle.std.proofs.Common.{rules}
use Rattle.outer_ports.proofs.OpenConnsLemmas.{found, goes_on, none_more, becomes_set}
use Rattle.outer_ports.proofs.open_conns.place_of.Goals as goal

pub loop-at-preserved : goal.loop-at-preserved
loop-at-preserved c =
    let none = none_more _ _ _ c.index-conns-at.result c.loop-at.invariant.before c.loop-at.invariant.within (search rules) in
    record { within = goes_on _ _ _ c.requires none; before = none }

pub returns-clause-at : goal.returns-clause-at
returns-clause-at c = λ d. found _ _ _ c.index-conns-at.result d c.loop-at.invariant.within c.loop-at.invariant.before (search rules)

pub returns-clause-becomes : goal.returns-clause-becomes
returns-clause-becomes c = λ o e. becomes_set _ _ _ c.index-conns-at.result o c.loop-at.invariant.within c.loop-at.invariant.before (search rules) e

use Rattle.std.proofs.Common.{◌≡◌, take}
use Rattle.link_queue.specs.Table.{queue_all}
use Rattle.link_queue.proofs.table.LinkTable.extend.Given as goal

abbrev pub invariant-loop-link : goal.invariant-loop-link
invariant-loop-link l = l.self ≡ queue_all l.fn.self (take l.link-index l.links)

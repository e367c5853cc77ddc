use Rattle.std.proofs.Common.{drop, false, true}
use Rattle.site_core.proofs.OpenLines.{open_at, open_grows, open_stays}
use Rattle.site_core.proofs.reading.fault_at_open_line.Goals as goal

pub returns-then-grows : goal.returns-then-grows
returns-then-grows c =
    let line = c.args.line in
    open_grows c.args.front.now line.entries.items line.expected line.at c.requires.full c.requires.ends.1 c.requires.ends.2
    (open_at line.entries.items c.as_slice.result.now line.expected (drop line.at c.args.front.now) c.tail-part.result.now c.in_ok-grows.grows true c.as_slice.ensures.value c.tail-part.ensures c.if-grows.true c.in_ok-grows.ensures)

pub returns-else-grows : goal.returns-else-grows
returns-else-grows c =
    let line = c.args.line in
    open_stays c.args.front.now line.entries.items line.expected line.at c.place_of-at.result c.place_of-at.ensures c.requires.ends.1 c.requires.ends.2
    (open_at line.entries.items c.as_slice.result.now line.expected (drop line.at c.args.front.now) c.tail-part.result.now c.in_ok-grows.grows false c.as_slice.ensures.value c.tail-part.ensures c.if-grows.false c.in_ok-grows.ensures)

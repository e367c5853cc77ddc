use Rattle.std.proofs.Common.{◌∙◌, ap}
use Rattle.std.specs.Prelude.{is_some}
use Rattle.link_uri.specs.Links.{same_link}
use Rattle.link_queue.specs.Table.{links}
use Rattle.link_queue.proofs.Growth.{position_any}
use Rattle.link_queue.proofs.table.LinkTable.has.Goals as goal

pub returns : goal.returns
returns c = rw (← c.self.view_is) (c.is_some.ensures ∙ (ap is_some c.get_index_of.ensures.index ∙ position_any (same_link c.args.link.now) (links c.self.inside.map.entries)))

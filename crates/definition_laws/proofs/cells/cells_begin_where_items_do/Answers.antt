use Rattle.definition_laws.proofs.CellsBegun.{cells_are_items}
use Rattle.definition_laws.proofs.CellsCounted.{cells_are_counted}
use Rattle.definition_laws.proofs.cells.cells_begin_where_items_do.Goals as goal

pub returns-clause-items : goal.returns-clause-items
returns-clause-items c = cells_are_items

pub returns-clause-cells : goal.returns-clause-cells
returns-clause-cells c = cells_are_counted

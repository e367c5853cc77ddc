use Rattle.std.proofs.Common.{◌++◌, List, ◌∙◌, ap}
use Rattle.json.specs.Tree.{json_tokens}
use Rattle.serde_json.specs.Data.{Members, object}
use Rattle.serde_json.specs.Written.{outline}
use Rattle.json_results.specs.Columns.{Column, columns_members}
use Rattle.json_results.proofs.InOrder.{in_order}
use Rattle.json_results.proofs.row.write_row.Goals as goal

pub returns-clause-ok : goal.returns-clause-ok
returns-clause-ok c =
    let same = ap (λ (l : List Column). columns_members l c.args.cells.now) c.in_order.ensures ∙ in_order c.args.columns.now c.args.cells.now in
    c.in_ok-write_columns.ensures.ok ∙ ap (λ (ms : Members). c.args.writer.now.tokens ++ json_tokens (outline (object ms))) same

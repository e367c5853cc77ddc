use Rattle.std.proofs.Common.{◌≤◌, [], ◌∷◌, ◌++◌, List, length, sym, ◌∙◌, ap, arith, append_assoc}
use Rattle.json.specs.Token.{Token}
use Rattle.json.specs.Tree.{members_tokens}
use Rattle.serde_json.specs.Written.{members_outline}
use Rattle.json_results.specs.Columns.{columns_members}
use Rattle.json_results.proofs.InOrder.{column_step, column_end}
use Rattle.json_results.proofs.row.write_columns.Goals as goal

pub loop-i-init : goal.loop-i-init
loop-i-init c =
    let rest = members_tokens (members_outline (columns_members c.args.columns.now c.args.cells.now)) in
    (c.begin_object.ensures.room.0, ap (λ (l : List Token). l ++ rest) c.in_ok-begin_object.ensures.ok ∙ append_assoc c.args.writer.now.tokens (Token.begin_object ∷ []) rest)

pub returns-in_err-write_cell-clause-before : goal.returns-in_err-write_cell-clause-before
returns-in_err-write_cell-clause-before c = c.write_cell.ensures.before ∙ c.loop-i.invariant.0

pub loop-i-preserved : goal.loop-i-preserved
loop-i-preserved c =
    let step = column_step c.args.columns.now c.loop-i.i c.index-columns-i.result c.args.cells.now c.loop-i.writer.tokens c.loop-i-test.true c.index-columns-i.is in
    (c.write_cell.ensures.before ∙ c.loop-i.invariant.0, rw (c.in_ok-write_cell.ensures.ok) (sym step ∙ c.loop-i.invariant.1))

pub returns-in_err-end_object-clause-before : goal.returns-in_err-end_object-clause-before
returns-in_err-end_object-clause-before c = c.end_object.ensures.room.0 ∙ c.loop-i.invariant.0

pub returns-clause-ok : goal.returns-clause-ok
returns-clause-ok c =
    let past : length c.args.columns.now ≤ c.loop-i.i = omega arith in
    c.in_ok-end_object.ensures.ok ∙ (sym (column_end c.args.columns.now c.loop-i.i c.args.cells.now c.loop-i.writer.tokens past) ∙ c.loop-i.invariant.1)

pub returns-clause-before : goal.returns-clause-before
returns-clause-before c = c.end_object.ensures.room.0 ∙ c.loop-i.invariant.0

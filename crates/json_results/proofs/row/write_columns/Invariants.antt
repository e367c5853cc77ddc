use Rattle.std.proofs.Common.{◌≡◌, ◌++◌, drop}
use Rattle.json.specs.Tree.{json_tokens, members_tokens}
use Rattle.serde_json.specs.Data.{object}
use Rattle.serde_json.specs.Written.{outline, members_outline}
use Rattle.json_results.specs.Columns.{columns_members}
use Rattle.json_results.proofs.row.write_columns.Given as goal

abbrev pub invariant-loop-i : goal.invariant-loop-i
invariant-loop-i l =
    (l.writer.before ≡ l.fn.writer.before)
    × (l.writer.tokens ++ members_tokens (members_outline (columns_members (drop l.i l.columns) l.cells)) ≡ l.fn.writer.tokens ++ json_tokens (outline (object (columns_members l.columns l.cells))))

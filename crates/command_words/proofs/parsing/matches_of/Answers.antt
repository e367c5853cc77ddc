use Rattle.std.proofs.Common.{map, string_bytes}
use Rattle.clap.specs.Words.{app_of, rows_of, found_of}
use Rattle.command_words.proofs.Parsed.{rows_found, rows_refused, simple_of}
use Rattle.command_words.proofs.parsing.matches_of.Goals as goal

pub returns-in-Ok : goal.returns-in-Ok
returns-in-Ok c =
    let app = app_of c.args.command in
    rows_found app (map string_bytes c.args.words.now) (rows_of (found_of c.in-Ok.matches)) (c.in-Ok.ensures.kinds c.requires) (c.in-Ok.ensures.matches (simple_of app c.requires)).0

pub returns : goal.returns
returns c = rows_refused (app_of c.args.command) (map string_bytes c.args.words.now) c.kind.result (rw c.kind.ensures (c.in-Err.ensures.kinds c.requires)) c.in_default.not-OutOfMemory

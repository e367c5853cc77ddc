use Rattle.std.proofs.Common.{◌≡◌, sym, ◌∙◌, ap, ℕ, List}
use Rattle.std.specs.Prelude.{IfOk}
use Rattle.link_uri.specs.Links.{joined_link}
use Rattle.doc_reader.specs.Outcome.{link_behind}
use Rattle.doc_reader.proofs.Locations.{behind_text, behind_none}
use Rattle.doc_reader.proofs.classifying.link_behind.Goals as goal

pub returns-in-Ok-clause-value : goal.returns-in-Ok-clause-value
returns-in-Ok-clause-value c =
    let e : link_behind c.args.link.now c.args.location.now ≡ joined_link c.args.link.now.text c.args.location.now = behind_text c.args.link.now c.args.location.now c.in-Ok.ensures.cases.1 in
    rw (e, ← c.in-Ok.ensures.cases.0) c.join.ensures.value

pub returns-in-Err-clause-value : goal.returns-in-Err-clause-value
returns-in-Err-clause-value c = sym (behind_none c.args.link.now c.args.location.now c.in-Err.ensures.cases.0)

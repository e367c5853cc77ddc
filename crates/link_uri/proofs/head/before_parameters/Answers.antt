use Rattle.std.proofs.Common.{sym}
use Rattle.link_uri.proofs.MediaLemmas.{take_found, take_all}
use Rattle.link_uri.proofs.head.before_parameters.Goals as goal

pub returns-in-Some : goal.returns-in-Some
returns-in-Some c = take_found _ c.args.field.now c.in-Some.at (sym c.in-Some.ensures)

pub returns-in-None : goal.returns-in-None
returns-in-None c = take_all _ c.args.field.now (sym c.in-None.ensures)

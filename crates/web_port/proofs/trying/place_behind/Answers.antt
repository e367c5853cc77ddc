use Rattle.web_port.proofs.MemoryWebLemmas.{drop_behind}
use Rattle.web_port.proofs.trying.place_behind.Goals as goal

pub returns-then-at-turns-clause-later : goal.returns-then-at-turns-clause-later
returns-then-at-turns-clause-later c = drop_behind c.args.at c.args.turns.now

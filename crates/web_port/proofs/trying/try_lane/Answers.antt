use Rattle.web_port.proofs.LanesLemmas.{below_at}
use Rattle.web_port.proofs.trying.try_lane.Goals as goal

pub fail-requires-clause-below : goal.fail-requires-clause-below
fail-requires-clause-below c = λ d. below_at c.args.tries c.args.flying.now.flights c.args.place d c.requires.below c.requires.place

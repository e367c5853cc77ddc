use Rattle.iri_core.proofs.ByTheRules.{by_the_rules}
use Rattle.iri_core.proofs.NoOtherResult.{no_other_result}
use Rattle.iri_core.proofs.laws.dots_go_by_the_rules.Goals as goal

pub returns : goal.returns
returns c = record { lead = by_the_rules; alone = no_other_result }

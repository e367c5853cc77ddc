use Rattle.run_report.proofs.Told.{both, none}
use Rattle.run_report.proofs.laws.failed_links_are_told.Goals as goal

pub returns-clause-lines : goal.returns-clause-lines
returns-clause-lines c = both

pub returns-clause-none : goal.returns-clause-none
returns-clause-none c = none

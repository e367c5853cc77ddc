use Rattle.site_core.proofs.EachFile.{fault_beyond, site_or_fault}
use Rattle.site_core.proofs.laws.each_file_is_a_site_or_has_a_fault.Goals as goal

pub returns-clause-within : goal.returns-clause-within
returns-clause-within c = site_or_fault

pub returns-clause-beyond : goal.returns-clause-beyond
returns-clause-beyond c = fault_beyond

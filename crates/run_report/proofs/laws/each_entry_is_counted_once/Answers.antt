use Rattle.run_report.proofs.Counting.{each_once}
use Rattle.run_report.proofs.laws.each_entry_is_counted_once.Goals as goal

pub returns : goal.returns
returns c = each_once

use Rattle.std.proofs.Common.{rules}
use Rattle.std.proofs.lemmas.Fn.{always_returns_same}
use Rattle.std.proofs.lemmas.List.Sorted.{ranks_by}
use Rattle.std.proofs.lemmas.Cmp.{nat_list_cmp_total}
use Rattle.run_report.specs.Report.{failed_link}
use Rattle.run_report.proofs.failures.rank.Goals as goal

pub returns-clause-sorted : goal.returns-clause-sorted
returns-clause-sorted c = c.in_ok-sort_by.ensures.sorted _ (ranks_by nat_list_cmp_total failed_link) (always_returns_same _ _ _ (λ a r q k. search rules))

pub returns-clause-stable : goal.returns-clause-stable
returns-clause-stable c = c.in_ok-sort_by.ensures.stable _ (ranks_by nat_list_cmp_total failed_link) (always_returns_same _ _ _ (λ a r q k. search rules))

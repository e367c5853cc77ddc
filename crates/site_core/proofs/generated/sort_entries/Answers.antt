use Rattle.std.proofs.Common.{rules}
use Rattle.std.proofs.lemmas.Fn.{always_returns_same}
use Rattle.std.proofs.lemmas.List.Sorted.{ranks_by}
use Rattle.std.proofs.lemmas.Cmp.{nat_list_cmp_total}
use Rattle.site_core.specs.Text.{Entry}
use Rattle.site_core.proofs.generated.sort_entries.Goals as goal

pub returns-clause-sorted : goal.returns-clause-sorted
returns-clause-sorted c = c.in_ok-sort_by.ensures.sorted _ (ranks_by nat_list_cmp_total (λ (e : Entry). e.0)) (always_returns_same _ _ _ (λ a r q k. search rules))

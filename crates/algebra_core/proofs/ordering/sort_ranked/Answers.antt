use Rattle.std.proofs.Common.{rules}
use Rattle.std.proofs.lemmas.Fn.{always_returns_same}
use Rattle.std.proofs.lemmas.List.Sorted.{ranks_by}
use Rattle.algebra_core.proofs.Totals.{ranked_total}
use Rattle.algebra_core.proofs.ordering.sort_ranked.Goals as goal

pub returns-clause-sorted : goal.returns-clause-sorted
returns-clause-sorted c = c.in_ok-sort_by.ensures.sorted _ (ranks_by (ranked_total c.args.keys.now c.args.places.now) (λ x. x)) (always_returns_same _ _ _ (λ a r q k. search rules))

use Rattle.std.proofs.Common.{ℕ, List, subst, IsPermutation}
use Rattle.algebra_core.proofs.Ranking.{places_in_order}
use Rattle.algebra_core.proofs.ordering.places_by_name.Goals as goal

pub returns : goal.returns
returns c =
    places_in_order c.args.names.now _ (subst (λ (l : List ℕ). IsPermutation l c.sort_places.new.places.items) c.in_ok-places.ensures c.in_ok-sort_places.ensures.same) c.in_ok-sort_places.ensures.sorted

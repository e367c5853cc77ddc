use Rattle.algebra_core.proofs.Ranking.{rows_ranked}
use Rattle.algebra_core.proofs.ordering.sorted_rows.Goals as goal

pub returns : goal.returns
returns c =
    rows_ranked c.args.query.now _ _ _ _ _ _ _ _ _ c.as_slice.ensures c.in_ok-places.ensures c.as_slice-4.ensures.value c.as_slice-2.ensures c.in_ok-ranked.ensures
    c.in_ok-sort_ranked.ensures.same c.as_slice-3.ensures c.in_ok-sort_ranked.ensures.sorted c.in_ok-sorted.ensures

use Rattle.std.proofs.lemmas.Bool.Decides.{Decides-at}
use Rattle.rows_core.proofs.Matching.{matches_Decides}
use Rattle.rows_core.proofs.pattern.match_triple.Goals as goal

pub returns-clause-meaning : goal.returns-clause-meaning
returns-clause-meaning c = Decides-at _ _ c.is_match.ensures (matches_Decides c.args.pattern.now c.args.triple.now)

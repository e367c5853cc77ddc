use Rattle.std.proofs.lemmas.Bool.Decides.{Decides-at}
use Rattle.rows_core.proofs.Joining.{fits_Decides}
use Rattle.rows_core.proofs.merging.compatible.Goals as goal

pub returns-clause-meaning : goal.returns-clause-meaning
returns-clause-meaning c = Decides-at _ _ c.is_fit.ensures (fits_Decides c.args.a.now c.args.b.now)

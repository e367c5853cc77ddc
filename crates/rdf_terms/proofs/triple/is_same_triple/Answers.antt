use Rattle.std.proofs.lemmas.Bool.Decides.{Decides-at}
use Rattle.rdf_terms.proofs.Deciding.{triple_Decides}
use Rattle.rdf_terms.proofs.triple.is_same_triple.Goals as goal

pub returns-clause-same : goal.returns-clause-same
returns-clause-same c = Decides-at _ _ c.eq.ensures (triple_Decides _ _)

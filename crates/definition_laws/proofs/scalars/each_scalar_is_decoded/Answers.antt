use Rattle.definition_laws.proofs.EachScalar.{scalar_decoded}
use Rattle.definition_laws.proofs.scalars.each_scalar_is_decoded.Goals as goal

pub returns : goal.returns
returns c = scalar_decoded

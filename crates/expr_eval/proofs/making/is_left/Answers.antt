use Rattle.std.proofs.Common.{arith}
use Rattle.expr_eval.proofs.DigitLemmas.{ten_pos}
use Rattle.expr_eval.proofs.making.is_left.Goals as goal

pub nonzero_rem-result : goal.nonzero_rem-result
nonzero_rem-result c = omega (arith, c.pow.ensures, ten_pos c.args.places)

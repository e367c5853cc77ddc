use Rattle.std.proofs.Common.{arith}
use Rattle.expr_eval.proofs.DigitLemmas.{ten_pos}
use Rattle.expr_eval.proofs.making.push_digit.Goals as goal

pub nonzero_div-digit : goal.nonzero_div-digit
nonzero_div-digit c = omega (arith, c.pow.ensures, ten_pos c.args.place)

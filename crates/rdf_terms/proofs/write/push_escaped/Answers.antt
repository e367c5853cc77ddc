use Rattle.std.proofs.Common.{arith}
use Rattle.rdf_terms.proofs.Escape.{plain}
use Rattle.rdf_terms.proofs.write.push_escaped.Goals as goal

pub returns-in_ok-push-in_default : goal.returns-in_ok-push-in_default
returns-in_ok-push-in_default c =
    let e = plain c.args.c (omega arith) (omega arith) (omega arith) (omega arith) (omega arith) in rw e c.in_ok-push-in_default.ensures.bytes

use Rattle.std.proofs.Common.{◌≡◌, take, drop, arith, sym, ap}
use Rattle.outer_ports.specs.Memory.{SureReading}
use Rattle.outer_ports.proofs.KnownBytesLemmas.{moves_on}
use Rattle.outer_ports.proofs.sure_source.SureSourceSource.read.Goals as goal

pub returns-clause-reads : goal.returns-clause-reads
returns-clause-reads c =
    let left : c.args.self.now.left ≡ drop c.self.inside.at c.self.inside.bytes = (ap (λ (r : SureReading). r.left) (sym c.self.view_is)) in
    let took : take c.copy_piece-count.result c.copy_piece-count.new.buf ≡ take c.copy_piece-count.result (drop c.self.inside.at c.self.inside.bytes) = grind arith in
    (omega arith, omega arith, moves_on c.self.inside.bytes _ _ c.self.inside.at _ left took)

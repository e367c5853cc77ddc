use Rattle.std.proofs.Common.{subst, sym}
use Rattle.http_message.specs.Lines.{IsScan}
use Rattle.http_message.proofs.LineLemmas.{scan_is}
use Rattle.http_message.proofs.lines.find.Goals as goal

pub returns : goal.returns
returns c = subst (IsScan c.args.place c.args.bytes.now) (sym c.find_end.ensures) (scan_is c.args.place c.args.bytes.now)

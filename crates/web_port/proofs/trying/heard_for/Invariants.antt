use Rattle.std.proofs.Common.{◌≡◌, drop}
use Rattle.reachability.specs.Web.{heard_in}
use Rattle.web_port.proofs.trying.heard_for.Given as goal

abbrev pub invariant-loop-entry : goal.invariant-loop-entry
invariant-loop-entry l = heard_in l.web.entries l.web.otherwise l.text ≡ heard_in (drop l.entry-index l.web.entries) l.web.otherwise l.text

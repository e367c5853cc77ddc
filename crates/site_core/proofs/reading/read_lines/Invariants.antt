use Rattle.std.proofs.Common.{◌-◌, ◌≤◌, length}
use Rattle.site_core.specs.Endings.{LeadsTo}
use Rattle.site_core.specs.Text.{site_limit}
use Rattle.site_core.proofs.Sound.{Fits}
use Rattle.site_core.proofs.reading.read_lines.Given as goal

abbrev pub invariant-loop-entries : goal.invariant-loop-entries
invariant-loop-entries l = record {
  within : l.at ≤ length l.bytes;
  leads : LeadsTo l.bytes l.entries.items l.expected l.at;
  sites : length l.bytes ≤ site_limit → Fits l.entries.items l.expected;
}

abbrev pub decreases-loop-entries : goal.decreases-loop-entries
decreases-loop-entries l = length l.bytes - l.at

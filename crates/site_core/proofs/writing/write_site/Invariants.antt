use Rattle.std.proofs.Common.{◌≡◌, ◌++◌, take}
use Rattle.std.specs.Prelude.{codes}
use Rattle.std.specs.List.{flat_map}
use Rattle.site_core.specs.Text.{block_text, ended}
use Rattle.site_core.proofs.writing.write_site.Given as goal

abbrev pub invariant-loop-entry : goal.invariant-loop-entry
invariant-loop-entry l = l.text ≡ ended (codes "site 1") ++ flat_map block_text (take l.entry-index l.entry-items)

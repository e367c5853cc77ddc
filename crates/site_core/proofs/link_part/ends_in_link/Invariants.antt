use Rattle.std.proofs.Common.{◌≡◌, ◌++◌, false, map, take}
use Rattle.std.specs.List.{list_any}
use Rattle.site_core.specs.Fields.{is_site_link}
use Rattle.site_core.specs.Growth.{endings}
use Rattle.site_core.proofs.link_part.ends_in_link.Given as goal

abbrev pub invariant-loop-ending : goal.invariant-loop-ending
invariant-loop-ending l = record {
  items : map (λ b. b.now) l.ending-items ≡ endings;
  none : list_any (λ ending. is_site_link (l.text ++ ending)) (take l.ending-index endings) ≡ false;
}

use Rattle.std.proofs.Common.{subst}
use Rattle.site_core.specs.declared.reading.Ending.{Ending}
use Rattle.site_core.specs.Endings.{EndsSo}
use Rattle.site_core.proofs.BeyondLemmas.{beyond_cut, beyond_whole}
use Rattle.site_core.proofs.reading.fault_beyond.Goals as goal

pub returns-in-Whole : goal.returns-in-Whole
returns-in-Whole c =
    let P : Ending → Type 0 = EndsSo c.args.front.now in
    beyond_whole c.args.front.now c.in-Whole.field-0.items c.requires (subst P c.in-Whole.is c.in_ok-at.ensures)

pub returns : goal.returns
returns c =
    let P : Ending → Type 0 = EndsSo c.args.front.now in
    let cut = subst P c.in-Cut.is c.in_ok-at.ensures in
    beyond_cut c.args.front.now cut.1.0 cut.1.1 c.in-Cut.field-0 c.requires cut.1.2 cut.1.3

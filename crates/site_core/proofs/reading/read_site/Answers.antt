use Rattle.std.proofs.Common.{◌≡◌, ◌∙◌, ap, arith, drop, length, subst, sym}
use Rattle.std.proofs.lemmas.List.{length-take-le}
use Rattle.site_core.specs.declared.reading.Ending.{Ending}
use Rattle.site_core.specs.Endings.{EndsSo}
use Rattle.site_core.specs.Text.{site_limit}
use Rattle.site_core.proofs.BeyondLemmas.{bad_beyond, bad_within, site_kept}
use Rattle.site_core.proofs.Following.{cut_bad, leads_bad, unended_bad}
use Rattle.site_core.proofs.OneAnswer.{shown_alone}
use Rattle.site_core.proofs.Sound.{site_from_reads}
use Rattle.site_core.proofs.reading.read_site.Goals as goal

pub fault_beyond-requires : goal.fault_beyond-requires
fault_beyond-requires c =
    let past = c.if-bytes-gt-SITE_LIMIT.true in
    ap length c.front.ensures ∙ length-take-le site_limit c.args.bytes.now (omega arith)

pub returns-then-bytes-gt-SITE_LIMIT-clause-bad : goal.returns-then-bytes-gt-SITE_LIMIT-clause-bad
returns-then-bytes-gt-SITE_LIMIT-clause-bad c = λ at e. bad_beyond c.args.bytes.now c.front.result.now c.in_ok-at.at at c.front.ensures c.if-bytes-gt-SITE_LIMIT.true c.in_ok-at.ensures (cc)

pub invariant_of-result : goal.invariant_of-result
invariant_of-result c =
    let P : Ending → Type 0 = EndsSo c.args.bytes.now in
    site_kept c.in-Whole.entries.items c.args.bytes.now (site_from_reads c.args.bytes.now c.in-Whole.entries.items (subst P c.in-Whole.is c.in_ok-entries.ensures) c.if-bytes-gt-SITE_LIMIT.false)

pub returns-in-Whole-clause-site : goal.returns-in-Whole-clause-site
returns-in-Whole-clause-site c =
    let P : Ending → Type 0 = EndsSo c.args.bytes.now in
    site_from_reads c.args.bytes.now c.in-Whole.entries.items (subst P c.in-Whole.is c.in_ok-entries.ensures) c.if-bytes-gt-SITE_LIMIT.false

pub returns-in-Fault-clause-bad : goal.returns-in-Fault-clause-bad
returns-in-Fault-clause-bad c = λ at e.
    let P : Ending → Type 0 = EndsSo c.args.bytes.now in
    bad_within c.args.bytes.now c.in-Fault.at at c.if-bytes-gt-SITE_LIMIT.false (shown_alone c.args.bytes.now c.in-Fault.at (subst P c.in-Fault.is c.in_ok-entries.ensures)) (cc)

pub returns-in-Unended-clause-bad : goal.returns-in-Unended-clause-bad
returns-in-Unended-clause-bad c = λ at e.
    let P : Ending → Type 0 = EndsSo c.args.bytes.now in
    let open_line = subst P c.in-Unended.is c.in_ok-entries.ensures in
    let line = c.in-Unended.line in
    let bad = leads_bad c.args.bytes.now line.entries.items line.expected line.at open_line.1 (unended_bad line.entries.items line.expected line.at (drop line.at c.args.bytes.now) open_line.2) in
    let same : line.at ≡ at = sym c.place_of.ensures ∙ (cc) in
    bad_within c.args.bytes.now line.at at c.if-bytes-gt-SITE_LIMIT.false bad same

pub returns-in-Cut-clause-bad : goal.returns-in-Cut-clause-bad
returns-in-Cut-clause-bad c = λ at e.
    let P : Ending → Type 0 = EndsSo c.args.bytes.now in
    let cut = subst P c.in-Cut.is c.in_ok-entries.ensures in
    let bad = leads_bad c.args.bytes.now cut.1.0 cut.1.1 c.in-Cut.at cut.1.2 (cut_bad cut.1.0 cut.1.1 c.in-Cut.at (drop c.in-Cut.at c.args.bytes.now) cut.1.3) in
    bad_within c.args.bytes.now c.in-Cut.at at c.if-bytes-gt-SITE_LIMIT.false bad (cc)

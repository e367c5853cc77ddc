use Rattle.std.proofs.Common.{subst}
use Rattle.site_core.specs.declared.reading.Found.{Found}
use Rattle.site_core.specs.Endings.{Finds}
use Rattle.site_core.proofs.Following.{fits_next, leads_fault, leads_on, leads_whole}
use Rattle.site_core.proofs.reading.read_lines.Goals as goal

pub loop-entries-preserved : goal.loop-entries-preserved
loop-entries-preserved c =
    let P : Found → Type 0 = Finds c.loop-entries.entries.items c.loop-entries.expected c.loop-entries.at c.args.bytes.now c.read_line.new.entries.items in
    let line = subst P c.in-Line.is c.in_ok-next_spot.ensures in
    record {
      within = line.1;
      sites = λ within. fits_next c.args.bytes.now c.loop-entries.entries.items c.read_line.new.entries.items c.loop-entries.expected c.in-Line.next_spot c.loop-entries.at c.in-Line.next within (c.loop-entries.invariant.sites within) line;
      leads = leads_on c.args.bytes.now c.loop-entries.entries.items c.read_line.new.entries.items c.loop-entries.expected c.in-Line.next_spot c.loop-entries.at c.in-Line.next c.loop-entries.invariant.leads line;
    }

pub returns-in-Last : goal.returns-in-Last
returns-in-Last c =
    let P : Found → Type 0 = Finds c.loop-entries.entries.items c.loop-entries.expected c.loop-entries.at c.args.bytes.now c.read_line.new.entries.items in
    leads_whole c.args.bytes.now c.loop-entries.entries.items c.read_line.new.entries.items c.loop-entries.expected c.loop-entries.at c.loop-entries.invariant.leads (subst P c.in-Last.is c.in_ok-next_spot.ensures)

pub returns-in-Fault : goal.returns-in-Fault
returns-in-Fault c =
    let P : Found → Type 0 = Finds c.loop-entries.entries.items c.loop-entries.expected c.loop-entries.at c.args.bytes.now c.read_line.new.entries.items in
    leads_fault c.args.bytes.now c.loop-entries.entries.items c.read_line.new.entries.items c.loop-entries.expected c.loop-entries.at c.in-Fault.place c.loop-entries.invariant.leads (subst P c.in-Fault.is c.in_ok-next_spot.ensures)

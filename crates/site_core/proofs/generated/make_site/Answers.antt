use Rattle.std.proofs.Common.{List, subst}
use Rattle.std.specs.List.Sorted.{IsPermutation}
use Rattle.site_core.specs.Text.{Entry}
use Rattle.site_core.proofs.GeneratedSites.{sorted_site, within_limit}
use Rattle.site_core.proofs.generated.make_site.Goals as goal

pub invariant_of-result : goal.invariant_of-result
invariant_of-result c =
    let n = c.args.n in
    let es = c.sort_entries.new.entries.items in
    let same = subst (λ (all : List Entry). IsPermutation all es) c.in_ok-entries.ensures c.in_ok-sort_entries.ensures.same in
    let some = c.requires.range.0 in
    let few = c.requires.range.1 in
    (sorted_site n c.args.step some few es same c.in_ok-sort_entries.ensures.sorted, within_limit n c.args.step some few es same)

pub returns : goal.returns
returns c =
    let n = c.args.n in
    let es = c.sort_entries.new.entries.items in
    let same = subst (λ (all : List Entry). IsPermutation all es) c.in_ok-entries.ensures c.in_ok-sort_entries.ensures.same in
    record { value = record { site = sorted_site n c.args.step c.requires.range.0 c.requires.range.1 es same c.in_ok-sort_entries.ensures.sorted; same = same } }

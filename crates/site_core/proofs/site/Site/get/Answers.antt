use Rattle.std.proofs.Common.{rules}
use Rattle.std.specs.Cmp.Lexicographic.{slice_cmp}
use Rattle.std.specs.Ordering.{nat_cmp}
use Rattle.std.proofs.lemmas.Fn.{always_returns_same}
use Rattle.site_core.specs.Text.{Entry}
use Rattle.site_core.proofs.Lookups.{found_in, missing_in}
use Rattle.site_core.proofs.site.Site.get.Goals as goal

pub returns-in-Ok : goal.returns-in-Ok
returns-in-Ok c =
    found_in c.self.inside.entries.items c.deref.result.now c.args.self.now c.args.link.now c.in-Ok.place c.index.result.now c.deref.ensures.value c.self.view_is c.self.invariant.0 c.in-Ok.ensures.bound
    (c.in-Ok.ensures.position (λ (e : Entry). slice_cmp nat_cmp e.0 c.args.link.now) (always_returns_same _ _ _ (λ a r f' k. (search rules, search rules))))
    c.index.ensures

pub returns-in-Err : goal.returns-in-Err
returns-in-Err c =
    missing_in c.self.inside.entries.items c.deref.result.now c.args.self.now c.args.link.now c.in-Err.field-0 c.deref.ensures.value c.self.view_is c.self.invariant.0
    (c.in-Err.ensures.position (λ (e : Entry). slice_cmp nat_cmp e.0 c.args.link.now) (always_returns_same _ _ _ (λ a r f' k. (search rules, search rules))))

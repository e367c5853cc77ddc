use Rattle.std.proofs.Common.{◌∙◌, sym}
use Rattle.iri_core.proofs.SegmentLemmas.{no_slash, some_slash, first_stays, only_stays}
use Rattle.iri_core.proofs.dots.behind_leading_dots.Goals as goal

pub returns-then-not-is_dots : goal.returns-then-not-is_dots
returns-then-not-is_dots c =
    first_stays c.loop-segment.rest.now c.in-Some.segment.now c.in-Some.after.now (some_slash c.loop-segment.rest.now (c.in-Some.segment, c.in-Some.after) c.in-Some.ensures.cases) (sym c.if-not-is_dots.ensures) ∙ c.loop-segment.invariant.same

pub returns-else-is_dots : goal.returns-else-is_dots
returns-else-is_dots c =
    only_stays c.loop-segment.rest.now (no_slash c.loop-segment.rest.now c.in_default.ensures.cases) (sym c.if-is_dots.ensures) ∙ c.loop-segment.invariant.same

use Rattle.std.proofs.Common.{◌∙◌, sym, ap, rules, List}
use Rattle.iri_core.specs.Dots.{Segment, segments, kept_of, kept_after_all}
use Rattle.iri_core.specs.Kept.{latest_first}
use Rattle.iri_core.proofs.SegmentLemmas.{no_slash, some_slash, pushed_first, kept_step}
use Rattle.iri_core.proofs.dots.kept_segments.Goals as goal

pub returns-in_default : goal.returns-in_default
returns-in_default c =
    pushed_first _ _ c.args.path c.new-kept.ensures.items c.in_ok-push.ensures.items ∙ sym (ap kept_of (no_slash c.args.path.now c.in_default.ensures.cases))

pub loop-segment-init : goal.loop-segment-init
loop-segment-init c = record {
  text = search rules;
  same =
      ap (λ (k : List Segment). kept_after_all k (segments c.in-Some.rest.now)) (pushed_first _ _ c.in-Some.first c.new-kept.ensures.items c.in_ok-push-2.ensures.items)
      ∙ sym (ap kept_of (some_slash c.args.path.now (c.in-Some.first, c.in-Some.rest) c.in-Some.ensures.cases));
}

pub loop-segment-preserved : goal.loop-segment-preserved
loop-segment-preserved c = let here = c.in-Some-split_once in record {
  text = search rules;
  same =
      ap (λ (k : List Segment). kept_after_all k (segments here.after.now)) c.in_ok-keep.ensures
      ∙ sym (kept_step (latest_first c.loop-segment.kept.items) here.segment.now here.after.now)
      ∙ sym (ap (kept_after_all (latest_first c.loop-segment.kept.items)) (some_slash c.loop-segment.rest.now (here.segment, here.after) here.ensures.cases))
      ∙ c.loop-segment.invariant.same;
}

pub returns : goal.returns
returns c =
    c.in_ok-keep_last.ensures
    ∙ sym (ap (kept_after_all (latest_first c.loop-segment.kept.items)) (no_slash c.loop-segment.rest.now c.in_default-split_once.ensures.cases))
    ∙ c.loop-segment.invariant.same

use Rattle.std.proofs.Common.{◌≡◌, length}
use denote.Text.{Utf8}
use denote.Shadow.{shadow}
use Rattle.iri_core.specs.Dots.{segments, kept_of, kept_after_all}
use Rattle.iri_core.specs.Kept.{latest_first}
use Rattle.iri_core.proofs.dots.kept_segments.Given as goal

abbrev pub invariant-loop-segment : goal.invariant-loop-segment
invariant-loop-segment l = record {
  text : shadow (Utf8 l.rest);
  same : kept_after_all (latest_first l.kept.items) (segments l.rest) ≡ kept_of (segments l.path);
}

abbrev pub decreases-loop-segment : goal.decreases-loop-segment
decreases-loop-segment l = length l.rest

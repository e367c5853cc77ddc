use Rattle.std.proofs.Common.{◌≡◌, ◌≤◌, ◌+◌, ◌++◌, length}
use Rattle.std.specs.Prelude.{vec_capacity}
use Rattle.link_queue.specs.Table.{queued_links, marks}
use Rattle.link_queue.proofs.table.LinkTable.into_queued.Given as goal

abbrev pub invariant-loop-link : goal.invariant-loop-link
invariant-loop-link l = record {
  next : (goal.iterator-loop-link).can_next l.link-iterator;
  finite : (goal.iterator-loop-link).is_finite l.link-iterator;
  texts : l.texts.items ++ queued_links (marks l.link-iterator) ≡ queued_links (marks l.fn.self);
  room : length l.texts.items + length l.link-iterator ≤ vec_capacity l.texts;
}

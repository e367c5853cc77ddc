use Rattle.std.proofs.Common.{◌≡◌, ◌∙◌, ap, sym, subst, true, List, []}
use Rattle.link_queue.specs.Table.{flying, marks, queued_links}
use Rattle.reachability.specs.declared.record.Entry.{Entry}
use Rattle.reachability.specs.Record.{merged_graph}
use Rattle.algebra_core.specs.Query.{Answers}
use Rattle.result_writer.specs.Output.{IsClear}
use Rattle.traverse_core.proofs.Ending.{traversed, ordered, faithful, ended, reachable, written}
use Rattle.traverse_core.proofs.traversal.Traversal.finish.Goals as goal

pub returns-clause-traversed : goal.returns-clause-traversed
returns-clause-traversed g c =
    let landed : flying c.self.inside.table ≡ 0 = rw (ap (λ s. s.table) c.self.view_is) c.requires in
    rw (c.from_vec.ensures, c.from_vec-2.ensures, c.into_queued.ensures) (traversed _ _ landed c.self.invariant.kept)

pub returns-clause-order : goal.returns-clause-order
returns-clause-order g c =
    let landed : flying c.self.inside.table ≡ 0 = rw (ap (λ s. s.table) c.self.view_is) c.requires in
    rw (c.from_vec.ensures, c.from_vec-2.ensures, c.into_queued.ensures) (ordered _ _ landed c.self.invariant.kept)

pub returns-clause-faithful : goal.returns-clause-faithful
returns-clause-faithful g c = rw c.from_vec.ensures (faithful _ _ c.self.invariant.kept)

pub returns-clause-ended : goal.returns-clause-ended
returns-clause-ended g c = λ closed.
    let done : c.self.inside.output.closed ≡ true = ap (λ s. s.out.closed) c.self.view_is ∙ closed in
    rw (c.from_vec.ensures, c.from_vec-2.ensures, c.into_queued.ensures) (ended _ _ done c.self.invariant.kept)

pub returns-clause-reachable : goal.returns-clause-reachable
returns-clause-reachable g c = λ none.
    let landed : flying c.self.inside.table ≡ 0 = rw (ap (λ s. s.table) c.self.view_is) c.requires in
    let left : queued_links (marks c.self.inside.table) ≡ [] = sym (c.from_vec-2.ensures ∙ c.into_queued.ensures) ∙ none in
    rw (c.from_vec.ensures, c.from_vec-2.ensures, c.into_queued.ensures) (reachable _ _ landed left c.self.invariant.kept)

pub returns-clause-written : goal.returns-clause-written
returns-clause-written g c = λ closed clear before told.
    let done : c.self.inside.output.closed ≡ true = ap (λ s. s.out.closed) c.self.view_is ∙ closed in
    let all : IsClear c.self.inside.output = subst IsClear (sym (ap (λ s. s.out) c.self.view_is)) clear in
    let w = written g.J.Job.run _ done all c.self.invariant.kept before told in
    (w.0, subst (λ (es : List Entry). Answers g.J.Job.run.query (merged_graph es) w.0) (sym c.from_vec.ensures) w.1, c.into_sink.ensures.content ∙ w.2)

use Rattle.std.proofs.Common.{◌≡◌, ◌∙◌, ap, subst, [], List}
use Rattle.link_uri.specs.declared.link.Link.{Link}
use Rattle.link_uri.specs.Links.{AreLinks}
use Rattle.link_queue.specs.Table.{queue_all}
use Rattle.result_writer.specs.Format.{head_text}
use Rattle.algebra_core.specs.declared.query.Query.{Query}
use Rattle.traverse_core.specs.Query.{patterns_of, selected_names}
use Rattle.traverse_core.proofs.Kept.{opened_out, opened_with}
use Rattle.traverse_core.proofs.traversal.Traversal.open.Goals as goal

pub invariant_of-result : goal.invariant_of-result
invariant_of-result g c =
    let seeds : c.as_slice.result.now ≡ g.J.Job.run.seeds = c.as_slice.ensures.value ∙ c.requires.seeds in
    let table = c.in-Ok.ensures.table ∙ ap (λ (us : List Link). queue_all [] us) seeds in
    let patterns = c.in-Ok.ensures.patterns ∙ ap patterns_of c.requires.query in
    let names = c.in-Ok.ensures.names ∙ ap selected_names c.requires.query in
    let head = c.in-Ok.ensures.head ∙ ap (λ (q : Query). head_text (selected_names q)) c.requires.query in
    opened_with _ _ _ _ _ _ _ _ _ c.requires.query c.requires.criterion patterns c.requires.limit c.requires.told (subst AreLinks c.requires.seeds c.requires.valid_links) table c.new-entries.ensures.items c.new-log.ensures
    (c.new-output.ensures ∙ opened_out g.J.Job.run _ _ _ _ names head c.requires.out.0 c.requires.out.1)

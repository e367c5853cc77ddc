use Rattle.std.proofs.Common.{◌≡◌, Ok, refl, sym, subst, ◌∙◌}
use Rattle.sparql_parser.specs.Answer.{IsAnswer, UnlessMemoryFault}
use Rattle.answer_core.specs.Queries.{HasQuery}
use Rattle.answer_core.specs.Task.{IsTaskOf}
use Rattle.answer_core.specs.Headline.{IsWebOfSite, WebRead}
use Rattle.answer_core.specs.Running.{BeforeReport, TaskRead, fault_status}
use Rattle.answer_core.proofs.Evidence.{evidence_as, unrecorded, shows_of}
use Rattle.answer_core.proofs.Queries.{one_task}
use Rattle.answer_core.proofs.Reading.{site_read, matches_none, fault_read}
use Rattle.answer_core.proofs.querying.answer_query.Goals as goal

pub returns-in-Ok : goal.returns-in-Ok
returns-in-Ok g c =
    let a = c.args.settings in
    let task = c.with_query.result in
    let end = c.run_task.result in
    let shows = shows_of g.S.Sink.content g.S.Sink.faults in
    let answer : HasQuery a.query (Ok c.in-Ok.query) = subst (λ t. IsAnswer t (Ok c.in-Ok.query)) c.as_str.ensures c.in-Ok.ensures.answer in
    let asked : IsTaskOf a task = subst (λ z. IsTaskOf a z) (sym c.with_query.ensures) (record { query = answer; is = refl }) in
    evidence_as shows (λ d. d ≡ task) (IsTaskOf a) (BeforeReport (TaskRead task c.args.site)) (BeforeReport (WebRead a (IsWebOfSite c.args.site))) end.trace c.args.out end.out end.status
    (λ d is. one_task a c.in-Ok.query d answer is ∙ sym c.with_query.ensures) (λ m x. site_read a task c.args.site end.status end.trace asked m x) c.run_task.ensures

pub returns-in-Err : goal.returns-in-Err
returns-in-Err g c =
    let a = c.args.settings in
    let fault = c.in-Err.fault in
    let none = c.without_record.ensures in
    let shows = shows_of g.S.Sink.content g.S.Sink.faults in
    unrecorded shows (IsTaskOf a) (BeforeReport (WebRead a (IsWebOfSite c.args.site))) c.without_record.result.trace c.args.out c.without_record.result.out (fault_status fault) c.without_record.result.status (none.0 ∙ c.status_of.ensures) none.1 none.2
    (matches_none fault) (fault_read a fault c.args.site (subst (λ t. UnlessMemoryFault (IsAnswer t) fault) c.as_str.ensures c.in-Err.ensures.answer))

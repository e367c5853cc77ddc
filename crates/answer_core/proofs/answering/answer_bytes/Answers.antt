use Rattle.std.proofs.Common.{◌≡◌}
use Rattle.answer_core.specs.declared.status.Status.TheVariants.{Site, Memory}
use Rattle.answer_core.specs.Task.{IsTaskOf}
use Rattle.answer_core.specs.Headline.{IsWebOfSite, WebRead}
use Rattle.answer_core.specs.Running.{BeforeReport, BytesRead}
use Rattle.answer_core.proofs.Evidence.{evidence_as, unrecorded, shows_of}
use Rattle.answer_core.proofs.Reading.{bytes_read, bad_read, memory_read}
use Rattle.answer_core.proofs.answering.answer_bytes.Goals as goal

pub returns-in-Ok : goal.returns-in-Ok
returns-in-Ok g c =
    let a = c.args.settings in
    let end = c.answer_query.result in
    let shows = shows_of g.S.Sink.content g.S.Sink.faults in
    evidence_as shows (IsTaskOf a) (IsTaskOf a) (BeforeReport (WebRead a (IsWebOfSite c.in-Ok.site))) (BeforeReport (BytesRead a c.args.bytes)) end.trace c.args.out end.out end.status (λ d is. is)
    (λ m x. bytes_read a c.in-Ok.site c.args.bytes end.status end.trace c.in-Ok.ensures.site x) c.answer_query.ensures

pub returns-in-Err-Bad : goal.returns-in-Err-Bad
returns-in-Err-Bad g c =
    let a = c.args.settings in
    let end = c.without_record.result in
    let bad = c.in-Err-Bad.ensures.bad c.in-Err-Bad.at (cc) in
    let status : end.status ≡ Site c.in-Err-Bad.at = cc in
    let shows = shows_of g.S.Sink.content g.S.Sink.faults in
    unrecorded shows (IsTaskOf a) (BeforeReport (BytesRead a c.args.bytes)) end.trace c.args.out end.out (Site c.in-Err-Bad.at) end.status status c.without_record.ensures.1 c.without_record.ensures.2 (λ x. x)
    (bad_read a c.in-Err-Bad.at c.args.bytes bad c.requires.most)

pub returns : goal.returns
returns g c =
    let a = c.args.settings in
    let end = c.without_record-in-Err-Memory.result in
    let none = c.without_record-in-Err-Memory.ensures in
    let shows = shows_of g.S.Sink.content g.S.Sink.faults in
    unrecorded shows (IsTaskOf a) (BeforeReport (BytesRead a c.args.bytes)) end.trace c.args.out end.out Memory end.status none.0 none.1 none.2 tt (memory_read a c.args.bytes)
